-- Shared by the worked histories of use: the pieces carried and slots used by each step, and the
-- steps bringing a recent piece.
use Rattle.std.proofs.Common.{◌≡◌, ◌∙◌, ℕ, List, [], ◌∷◌, false, sym, ap, subst, ◌⊎◌, inl, inr}
use Rattle.std.proofs.lemmas.Bool.{true≢false}
use Rattle.suffix_routes.specs.Values.{Config, AllDiffer}
use Rattle.trust_rank.specs.declared.slot.Slot.{Slot}
use Rattle.trust_rank.specs.Values.{Piece}
use Rattle.record_cache.specs.Values.{Held}
use Rattle.step_values.specs.Values.{Step}
use Rattle.step_history.specs.Carried.{then_carried}
use Rattle.step_history.specs.History.{is_restart, moment_at, Carries, NothingAccepted}
use Rattle.theorem_use.specs.Recent.{IsBelieved, StaysBelieved, Brings, IsRecent}
use Rattle.theorem_use.specs.Touched.{Touched, carried_in, TouchedInEra}
use Rattle.worked_claims.proofs.Carried.{one_carriage}

-- after the steps before, the newest step carried these pieces, and used these slots
pub record TouchedThen (c : Config) (s : Step) (past : List Step) (carried : List Held) (slots : List Slot)
    (used : List (List Slot)) (ts : List Touched) : Type 0 where
  pub before : List Touched
  pub era : TouchedInEra c past used before
  pub is : ts ≡ record { carried = carried; used = slots; unkept = s.outcome.unkept } ∷ before

-- a step carrying nothing
pub touched_nothing : (c : Config) (s : Step) (past : List Step) (slots : List Slot) (used : List (List Slot))
    (ts : List Touched) → is_restart s ≡ false → NothingAccepted c s past
    → TouchedInEra c (s ∷ past) (slots ∷ used) ts → TouchedThen c s past [] slots used ts
touched_nothing c s past slots used ts runs quiet (inl (restarts, none)) = absurd (true≢false (sym restarts ∙ runs))
touched_nothing c s past slots used ts runs quiet (inr (go, carried, before, inl (silent, none), era, is)) = record {
  before = before;
  era = era;
  is = is ∙ ap (λ (os : List Held). record { carried = os; used = slots; unkept = s.outcome.unkept } ∷ before) none;
}
touched_nothing c s past slots used ts runs quiet (inr (go, carried, before, inr (ps, k, these), era, is)) =
    absurd (quiet ps k)

-- a step carrying these pieces carries no other pieces
pub touched_these : (c : Config) (s : Step) (past : List Step) (ps : List Piece) (slots : List Slot)
    (used : List (List Slot)) (ts : List Touched) → AllDiffer c.routes → is_restart s ≡ false → Carries c s past ps
    → TouchedInEra c (s ∷ past) (slots ∷ used) ts
    → TouchedThen c s past (then_carried (moment_at (s ∷ past)) ps []) slots used ts
touched_these c s past ps slots used ts differ runs carries (inl (restarts, none)) =
    absurd (true≢false (sym restarts ∙ runs))
touched_these c s past ps slots used ts differ runs carries (inr (go, carried, before, inl (silent, none), era, is)) =
    absurd (silent ps carries)
touched_these c s past ps slots used ts differ runs carries (inr (go, carried, before, inr (qs, k, these), era, is)) =
    record {
      before = before;
      era = era;
      is = is ∙ ap (λ (os : List Held). record { carried = os; used = slots; unkept = s.outcome.unkept } ∷ before)
          (these ∙ ap (λ (rs : List Piece). then_carried (moment_at (s ∷ past)) rs [])
          (one_carriage c s past qs ps differ k carries));
    }

-- one of these steps brought the piece
abbrev pub CameIn : List Touched → Held → Type 0
CameIn [] o = ⊥
CameIn (t ∷ ts) o = Brings t ts o ⊎ CameIn ts o

-- a recent piece was brought by one of the steps
pub recent_came : (room : ℕ) (ts : List Touched) (o : Held) (slots : List Slot) → IsRecent room ts o slots → CameIn ts o
recent_came room [] o slots never = never
recent_came room (t ∷ ts) o slots (few, touches, inl brings) = inl brings
recent_came room (t ∷ ts) o slots (few, touches, inr (keeps, inl (used, before, recent))) =
    inr (recent_came room ts o before recent)
recent_came room (t ∷ ts) o slots (few, touches, inr (keeps, inr recent)) = inr (recent_came room ts o slots recent)

-- a step with a single carried piece brought this piece alone
pub the_one_brought : {x o : Held} {used : List Slot} {unkept : ℕ} {ts : List Touched}
    → Brings (record { carried = x ∷ []; used = used; unkept = unkept }) ts o → (x ≡ o) × IsBelieved x (carried_in ts)
the_one_brought {x} {o} {used} {unkept} {ts} brings = by brings.believed
  where
    by : StaysBelieved o (x ∷ []) (carried_in ts) → (x ≡ o) × IsBelieved x (carried_in ts)
    by (inl (same, believed)) = (same, subst (λ (h : Held). IsBelieved h (carried_in ts)) (sym same) believed)
    by (inr (keeps, never)) = absurd never
