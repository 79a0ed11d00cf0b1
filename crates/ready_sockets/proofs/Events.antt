-- Sockets that are noted for each of the events of a poll.
use Rattle.std.proofs.Common.{refl, subst, List, [], ◌∷◌, ◌++◌}
use Rattle.mio.specs.declared.event.event.Event.{Event}
use Rattle.ready_sockets.specs.declared.readiness.Ready.{Ready}
use Rattle.ready_sockets.specs.Trying.{NotesEach, NotesEvent}

-- One event more is noted.
pub notes_more : {A : Type 0} (event : Event) (events : List Event) (first before after : Ready A)
    → NotesEach events first before → NotesEvent event before after
    → NotesEach (events ++ event ∷ []) first after
notes_more event [] first before after so_far notes =
    (after, subst (λ (r : Ready _). NotesEvent event r after) so_far notes, refl)
notes_more event (earlier ∷ events) first before after so_far notes =
    (so_far.0, so_far.1, notes_more event events so_far.0 before after so_far.2 notes)
