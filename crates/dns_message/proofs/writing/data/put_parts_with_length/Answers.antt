use Rattle.std.proofs.Common.{◌-◌, ℕ, List, ◌∙◌, arith, refl}
use Rattle.std.specs.Vec.{with_items}
use Rattle.std.proofs.lemmas.Result.{err_from_is_err_and}
use Rattle.dns_message.specs.Fields.{fields_of}
use Rattle.dns_message.specs.Writing.{by_fields}
use Rattle.dns_message.proofs.writing.WriterRecords.{as_items, set_length, so_long, with_length_refused, with_length_written}
use Rattle.dns_message.proofs.writing.data.put_parts_with_length.Goals as goal

pub returns-in_err-check : goal.returns-in_err-check
returns-in_err-check g c =
    let p = err_from_is_err_and c.from_residual-in_err-check.result c.from_residual-in_err-check.ensures.1 in
    rw (p.1, p.2)
    (with_length_refused c.args.limit c.in_err-check.field-0.0 c.args.writer.now c.put_u16.new.self c.put_parts.new.writer (by_fields (fields_of c.args.parts.now c.args.octets.now) c.args.octets.now) c.in_ok-put_u16.ensures c.in_ok-put_parts.ensures
    c.in_err-check.ensures.0 c.in_err-check.ensures.1)

pub overflow_sub-len : goal.overflow_sub-len
overflow_sub-len g c =
    let long = so_long c.args.writer.now c.put_u16.new.self c.put_parts.new.writer (by_fields (fields_of c.args.parts.now c.args.octets.now) c.args.octets.now) c.requires.holds c.in_ok-put_u16.ensures c.in_ok-put_parts.ensures in
    omega (arith, long, c.len.ensures, c.len-start.ensures)

pub overflow_sub-len-2 : goal.overflow_sub-len-2
overflow_sub-len-2 g c =
    let long = so_long c.args.writer.now c.put_u16.new.self c.put_parts.new.writer (by_fields (fields_of c.args.parts.now c.args.octets.now) c.args.octets.now) c.requires.holds c.in_ok-put_u16.ensures c.in_ok-put_parts.ensures in
    omega (arith, long, c.len.ensures, c.len-start.ensures)

pub set_u16-requires : goal.set_u16-requires
set_u16-requires g c =
    let long = so_long c.args.writer.now c.put_u16.new.self c.put_parts.new.writer (by_fields (fields_of c.args.parts.now c.args.octets.now) c.args.octets.now) c.requires.holds c.in_ok-put_u16.ensures c.in_ok-put_parts.ensures in
    rw c.deref_mut.ensures.value (omega (arith, long, c.len.ensures, c.len-start.ensures))

pub returns : goal.returns
returns g c =
    let whole : List ℕ = c.put_parts.new.writer.octets.items in
    let room = so_long c.args.writer.now c.put_u16.new.self c.put_parts.new.writer (by_fields (fields_of c.args.parts.now c.args.octets.now) c.args.octets.now) c.requires.holds c.in_ok-put_u16.ensures c.in_ok-put_parts.ensures in
    let set = rw c.deref_mut.ensures.value at c.set_u16.ensures in
    let long = set_length c.len-start.result (c.len.result - c.len-start.result - 2) c.set_u16.new.octets whole (omega (arith, room, c.len-start.ensures)) set in
    let items = as_items c.set_u16.new.octets whole c.put_parts.new.writer.octets.len long (omega (arith, c.len.ensures)) in (
      with_length_written c.args.writer.now c.put_u16.new.self c.put_parts.new.writer (record { octets = with_items c.put_parts.new.writer.octets c.set_u16.new.octets; pointers = c.put_parts.new.writer.pointers })
          (by_fields (fields_of c.args.parts.now c.args.octets.now) c.args.octets.now) c.len-start.result (c.len.result - c.len-start.result - 2) (omega (arith, c.len-start.ensures)) (omega (arith, c.len.ensures)) c.in_ok-put_u16.ensures c.in_ok-put_parts.ensures
          (items ∙ set) refl,
      rw items (omega (arith, long, c.in_ok-check.ensures)),
      tt,
    )
