use Rattle.std.proofs.Common.{map}
use Rattle.mio.specs.declared.event.event.Event.{Event}
use denote.Ref.{Bor}
use Rattle.ready_sockets.specs.Trying.{NotedStay, NotesEach}
use Rattle.ready_sockets.proofs.readiness.Ready.note_each.Given as goal

-- the events so far are noted, and sockets that were noted before them are noted still
abbrev pub invariant-loop-event : goal.invariant-loop-event
invariant-loop-event g l = record {
  each : NotesEach (map (λ (event : Bor Event). event.now) l.yielded) l.fn.self l.self;
  stay : NotedStay l.fn.self l.self;
}
