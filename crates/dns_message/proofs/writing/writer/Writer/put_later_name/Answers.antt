use Rattle.std.proofs.Common.{sym, false, ◌∷◌, ◌-◌, [], refl, length, take, arith}
use Rattle.dns_name.specs.Labels.{labels_of}
use Rattle.dns_message.specs.Writing.{octets16}
use Rattle.dns_message.proofs.writing.WriterLaws.{way_begins, way_goes_on, way_ends, known_left, root_left, all_of}
use Rattle.dns_message.proofs.writing.writer.Writer.put_later_name.Goals as goal

pub loop-label-init : goal.loop-label-init
loop-label-init g c = record { start = omega arith; within = omega arith; way = way_begins c.args.self.now c.args.name.now false c.requires (λ first. absurd cc) }

pub returns-in-Some-find : goal.returns-in-Some-find
returns-in-Some-find g c =
    let way = c.loop-label.invariant.way in
    way_ends c.args.self.now c.loop-label.self (record { octets = c.extend_from_slice.new.self; pointers = c.loop-label.self.pointers }) c.put_u16.new.self c.args.name.now c.loop-label.rest.now
    (take (length c.args.name.now - length c.loop-label.rest.now) c.args.name.now) (octets16 c.in-Some-find.pointer) false way refl c.in_ok-extend_from_slice.ensures.items refl
    (known_left c.loop-label.self.pointers c.loop-label.rest.now c.in-Some._label.now (labels_of c.in-Some.after.now) c.in-Some-find.pointer way.laid c.in-Some.ensures.labels (sym c.in-Some-find.ensures)) c.in_ok-put_u16.ensures

pub loop-label-preserved : goal.loop-label-preserved
loop-label-preserved g c = record {
  start = c.loop-label.invariant.start;
  within = omega (arith, c.loop-label.invariant.within, c.in-Some.ensures.size);
  way = way_goes_on c.args.self.now c.loop-label.self (record { octets = c.loop-label.self.octets; pointers = c.insert.new.self }) c.args.name.now c.loop-label.rest.now c.in-Some._label.now c.in-Some.after.now
      false _ c.loop-label.invariant.way c.in-Some.ensures (sym c.in_default-find.ensures) (omega (arith, c.loop-label.invariant.start)) c.in_ok-insert.ensures refl;
}

pub returns : goal.returns
returns g c =
    let way = c.loop-label.invariant.way in
    way_ends c.args.self.now c.loop-label.self (record { octets = c.extend_from_slice-2.new.self; pointers = c.loop-label.self.pointers }) c.put_u8.new.self c.args.name.now c.loop-label.rest.now
    c.args.name.now (0 ∷ []) false way (all_of c.args.name.now c.loop-label.rest.now c.in_default.ensures) c.in_ok-extend_from_slice-2.ensures.items refl
    (λ u into. root_left u c.loop-label.rest.now c.in_default.ensures) c.in_ok-put_u8.ensures
