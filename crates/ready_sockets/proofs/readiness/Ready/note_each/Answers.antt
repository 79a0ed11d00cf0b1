use Rattle.std.proofs.Common.{refl, subst, sym, List}
use Rattle.std.proofs.lemmas.Iterator.{YieldsList-from_slice}
use Rattle.std.proofs.lemmas.Iterator.Consumers.{YieldsList-end}
use Rattle.std.proofs.lemmas.List.{map_push}
use denote.Ref.{Bor}
use Rattle.mio.specs.Events.{items}
use Rattle.mio.specs.declared.event.event.Event.{Event}
use Rattle.ready_sockets.specs.Trying.{NotesEach}
use Rattle.ready_sockets.proofs.Events.{notes_more}
use Rattle.ready_sockets.proofs.Noting.{noted_stay, noted_stay_on}
use Rattle.ready_sockets.proofs.readiness.Ready.note_each.Goals as goal

pub loop-event-init : goal.loop-event-init
loop-event-init g c = record { each = refl; stay = noted_stay c.args.self.now }

pub loop-event-preserved : goal.loop-event-preserved
loop-event-preserved g c = record {
  each = subst (λ (events : List Event). NotesEach events c.args.self.now c.note.new.self)
      (sym (map_push (λ (event : Bor Event). event.now) c.loop-event.yielded c.in-Some.event))
      (notes_more c.in-Some.event.now _ c.args.self.now c.loop-event.self c.note.new.self
      c.loop-event.invariant.each c.note.ensures);
  stay = noted_stay_on c.args.self.now c.loop-event.self c.note.new.self
      c.loop-event.invariant.stay c.note.ensures.stay;
}

pub returns : goal.returns
returns g c =
    let all = YieldsList-end
    (YieldsList-from_slice (items c.args.events.now) c.into_iter-event-iterator.ensures.into_iter_gives.0)
    c.loop-event.yielded _ c.loop-event.yielded_by _ _ c.in-None.is c.next.ensures.steps in
    record {
      each = subst (λ (events : List Event). NotesEach events c.args.self.now c.loop-event.self)
          all.0 c.loop-event.invariant.each;
      stay = c.loop-event.invariant.stay;
    }
