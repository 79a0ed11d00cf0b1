-- A history that serves truly, whole: a question, its ask, the reply with the answer, and the same
-- question answered from cache. `NotTruly`, `Given` and `TakenTurns` have a neighbour for each field
-- of `ServesTruly`, except for the fields on use; `Unbelieved` and `Unused` have the neighbours for
-- these.
use Rattle.std.proofs.Common.{◌≡◌, ℕ, List, [], ◌∷◌, false, refl, sym, ap, ◌∙◌, subst, inl, inr, arith}
use Rattle.std.proofs.lemmas.Bool.{true≢false}
use Rattle.trust_rank.specs.declared.slot.Slot.{Slot}
use Rattle.trust_rank.specs.Values.{Piece}
use Rattle.record_cache.specs.Values.{Held}
use Rattle.step_values.specs.Values.{Step}
use Rattle.step_history.specs.Carried.{then_carried}
use Rattle.step_history.specs.Given.{GivesWhatCame, AsksFewTimes}
use Rattle.step_history.specs.Sound.{Sound}
use Rattle.step_table.proofs.Played.{a, address, config}
use Rattle.theorem_use.specs.Asking.{AsksForThoseWhoWait}
use Rattle.theorem_use.specs.Service.{ServesTruly}
use Rattle.theorem_use.specs.Use.{UsesWhatStands}
use Rattle.theorem_use.specs.Touched.{Touched, TouchedInEra, LeadsAlong, AnswersNothing, LooksUp}
use Rattle.theorem_use.specs.Recent.{UsesWhatIsRecent}
use Rattle.worked_claims.proofs.Texts.{only_closes}
use Rattle.worked_claims.proofs.Silent.{nothing_came}
use Rattle.worked_claims.proofs.Accepted.{asked, answered, piece, carries, held, carried_now}
use Rattle.worked_claims.proofs.OnlyThis.{carries_this}
use Rattle.worked_claims.proofs.Whole.{history, it_is_sound, it_asks_well, it_tells_that_nothing_is_due}
use Rattle.worked_claims.proofs.Brought.{not_sent}
use Rattle.worked_claims.proofs.FirstStep.{word, asks_it, first_try, asked_for, uses_nothing, uses_no_slot, only_asks}
use Rattle.worked_claims.proofs.InTurn.{turns_so_far}
use Rattle.worked_claims.proofs.FromAddress.{hit, StandsAfter, owns_it, answers_at_once, looked_at_the_address}

-- ---- the whole history: asked, answered, and answered again from cache

abbrev now : List Step
now = hit ∷ history

stands : StandsAfter history
stands = record { carried = held ∷ []; are = carried_now 4 0; kept = inl refl; moment = refl }

abbrev owners : List (List ℕ)
owners = (2 ∷ []) ∷ (0 ∷ []) ∷ [] ∷ []

sound : Sound config now owners
sound = (
  it_is_sound,
  (owns_it history (0 ∷ []) stands, refl, refl),
  λ q octets from runs moment quiet. absurd (let moments : 1020 ≡ 2000 = moment in omega (arith, moments)),
)

-- the reply is given: nothing is asked after the reply's step, nor in the step
pub it_gives : GivesWhatCame config history
it_gives = (
  (tt, nothing_came config asked [] refl),
  λ pieces servers k ends. record { none_listed = tt; none_sent = λ q. only_closes },
)

-- the ask was the first try
pub it_asks_once : AsksFewTimes config history
it_asks_once = (first_try config false word (omega arith), tt)

-- after the reply nobody waits, and nothing is asked
pub nobody_waits : AsksForThoseWhoWait config history ((0 ∷ []) ∷ [] ∷ [])
nobody_waits = (
  (tt, asked_for config false word),
  record { wanted = []; each = tt; asked = tt; wanting = tt; spelled = tt },
)

pub handed_on : UsesWhatStands config history ((0 ∷ []) ∷ [] ∷ [])
handed_on = (uses_nothing config false word asks_it [], λ asker q some asks is room known. absurd (not_sent asks.sends))

used_at_once : UsesWhatStands config now owners
used_at_once = (
  handed_on,
  λ asker q some asks is room known. answers_at_once history (0 ∷ []) stands asker asks.octets asks.sends,
)

-- the reply used no slot, and was no question
pub recent_so_far : UsesWhatIsRecent config history ((0 ∷ []) ∷ [] ∷ []) ([] ∷ [] ∷ [])
recent_so_far = (
  uses_no_slot config false word asks_it [] only_asks,
  λ ts era. (
    inr (inr (record { none = refl; silent = λ q octets from. absurd from.0 })),
    λ asker q asks known. absurd (not_sent asks.sends),
  ),
)

-- the piece is the newest touched by the era
abbrev BeginsSo : List Touched → Type 0
BeginsSo ts = (before : List Touched) × (ts ≡ record { carried = held ∷ []; used = []; unkept = 0 } ∷ before)

begins_so : (used : List (List Slot)) (ts : List Touched) → TouchedInEra config history ([] ∷ used) ts → BeginsSo ts
begins_so used ts (inl (restarts, none)) = absurd (true≢false (sym restarts))
begins_so used ts (inr (runs, carried, before, inl (silent, none), era, is)) =
    absurd (silent (piece ∷ []) (carries 4 0))
begins_so used ts (inr (runs, carried, before, inr (ps, k, these), era, is)) = (
  before,
  is ∙ ap (λ (os : List Held). record { carried = os; used = []; unkept = 0 } ∷ before)
      (these ∙ ap (λ (qs : List Piece). then_carried 1020 qs []) (carries_this ps k)),
)

-- the piece's slot was used
uses_it : (ts : List Touched) → BeginsSo ts → LooksUp config hit history ts (held.piece.slot ∷ [])
uses_it ts (before, is) = looked_at_the_address history ts stands
    (subst (λ (z : List Touched). LeadsAlong (AnswersNothing hit) 2000 z (address a) (held ∷ [])) (sym is)
    ((inl refl, omega arith), inl (record { name = refl; class = refl; kind = refl }, refl)))

used_recent : UsesWhatIsRecent config now owners ((held.piece.slot ∷ []) ∷ [] ∷ [] ∷ [])
used_recent = (
  recent_so_far,
  λ ts era. (
    inl (uses_it ts (begins_so ([] ∷ []) ts era)),
    λ asker q asks known. answers_at_once history (0 ∷ []) stands asker asks.octets asks.sends,
  ),
)

it_serves_truly : ServesTruly config (asked ∷ answered ∷ hit ∷ [])
it_serves_truly = record {
  sound = record {
    owners = owners;
    sound = sound;
    tells = (it_tells_that_nothing_is_due, refl);
    few = omega arith;
  };
  asks = (it_asks_well, tt, omega arith, (tt, tt));
  given = (it_gives, nothing_came config hit history refl);
  tries = (it_asks_once, tt);
  places = 0 ∷ 0 ∷ 0 ∷ [];
  turns = (turns_so_far, (tt, tt));
  waiting = (nobody_waits, record { wanted = []; each = tt; asked = tt; wanting = tt; spelled = tt });
  uses = used_at_once;
  used = (held.piece.slot ∷ []) ∷ [] ∷ [] ∷ [];
  recent = used_recent;
}
