use Rattle.std.proofs.Common.{◌∷◌, [], true, refl, arith}
use Rattle.dns_message.proofs.writing.WriterLaws.{way_begins, way_goes_on, way_ends, root_left, all_of}
use Rattle.dns_message.proofs.writing.writer.Writer.put_first_name.Goals as goal

pub loop-label-init : goal.loop-label-init
loop-label-init g c = record { start = omega arith; within = omega arith; way = way_begins c.args.self.now c.args.name.now true c.requires.laid (λ first. c.requires.none) }

pub loop-label-preserved : goal.loop-label-preserved
loop-label-preserved g c =
    let way = c.loop-label.invariant.way in
    record {
      start = c.loop-label.invariant.start;
      within = omega (arith, c.loop-label.invariant.within, c.in-Some.ensures.size);
      way = way_goes_on c.args.self.now c.loop-label.self (record { octets = c.loop-label.self.octets; pointers = c.insert.new.self }) c.args.name.now c.loop-label.rest.now c.in-Some._label.now c.in-Some.after.now
          true _ way c.in-Some.ensures (way.none refl c.loop-label.rest.now (omega arith)) (omega (arith, c.loop-label.invariant.start)) c.in_ok-insert.ensures refl;
    }

pub returns : goal.returns
returns g c =
    let way = c.loop-label.invariant.way in
    way_ends c.args.self.now c.loop-label.self (record { octets = c.extend_from_slice.new.self; pointers = c.loop-label.self.pointers }) c.put_u8.new.self c.args.name.now c.loop-label.rest.now
    c.args.name.now (0 ∷ []) true way (all_of c.args.name.now c.loop-label.rest.now c.in_default.ensures) c.in_ok-extend_from_slice.ensures.items refl
    (λ u into. root_left u c.loop-label.rest.now c.in_default.ensures) c.in_ok-put_u8.ensures
