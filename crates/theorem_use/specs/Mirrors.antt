-- The entries of the cache and the pieces that stand.
use Rattle.std.specs.Prelude.{◌≡◌, ℕ, ◌≤◌, true, List, [], ◌∷◌, ◌⊎◌}
use Rattle.std.specs.List.{AllByRecursion}
use Rattle.suffix_routes.specs.Values.{Config}
use Rattle.trust_rank.specs.declared.slot.Slot.{Slot}
use Rattle.record_cache.specs.Values.{Held}
use Rattle.record_cache.specs.Ageing.{is_alive}
use Rattle.record_cache.specs.Laws.{Among}
use Rattle.step_values.specs.Values.{StepInput, Outcome, Step}
use Rattle.step_history.specs.Carried.{CarriedInEra}
use Rattle.step_history.specs.Given.{GivesWhatCame, AsksFewTimes}
use Rattle.step_history.specs.Turns.{AskedAt, IsPreferred, AsksInTurn}
use Rattle.step_table.specs.Attempts.{preferred_on}
use Rattle.step_table.specs.State.{State}
use Rattle.theorem_sound.specs.TheoremCache.Kept.{IsKept}
use Rattle.theorem_sound.specs.Explains.{Explains}
use Rattle.theorem_use.specs.Standing.{standing}
use Rattle.theorem_use.specs.Use.{IsOneOf, HasRoom, UsesWhatStands}
use Rattle.theorem_use.specs.Touched.{Touched, carried_in, TouchedInEra}
use Rattle.theorem_use.specs.Recent.{IsRecent, UsesWhatIsRecent}
use Rattle.theorem_use.specs.Asking.{AreServed, AsksForThoseWhoWait}

-- the entries were carried; at each moment from n on, the living entries are exactly the pieces
-- that stand
pub record Mirrors (n : ℕ) (carried entries : List Held) : Type 0 where
  pub was_carried : (h : Held) → Among h entries → Among h carried
  pub stands : (m : ℕ) → n ≤ m → (h : Held) → Among h entries → is_alive m h ≡ true → Among h (standing m carried)
  pub held : (m : ℕ) → n ≤ m → (h : Held) → Among h (standing m carried) → Among h entries

-- With room for everything carried in the era, the entries mirror the standing pieces. Each step
-- used the standing pieces.
pub record IsMirrored (c : Config) (past : List Step) (w : List (List ℕ)) (s : State) : Type 0 where
  pub mirrors : (carried : List Held) → CarriedInEra c past carried → HasRoom c past carried
      → Mirrors s.moment carried s.cache.entries
  pub uses : UsesWhatStands c past w

-- o is one of the entries, after entries of these slots alone
abbrev pub ComesAfter : List Slot → Held → List Held → Type 0
ComesAfter slots o [] = ⊥
ComesAfter slots o (e ∷ entries) = (e ≡ o) ⊎ (IsOneOf e.piece.slot slots × ComesAfter slots o entries)

-- The entries were carried, and not replaced since. Each recent piece that is alive is an entry,
-- after entries of the slots alone that were carried or used since its last use.
pub record KeepsRecent (c : Config) (moment : ℕ) (ts : List Touched) (entries : List Held) : Type 0 where
  pub kept : AllByRecursion (IsKept c (carried_in ts) moment) entries
  pub order : (o : Held) (slots : List Slot) → IsRecent c.limits.cache ts o slots → is_alive moment o ≡ true
      → ComesAfter slots o entries

-- With some used slots of each step, `KeepsRecent` holds of the state, and `UsesWhatIsRecent` of
-- the history.
pub record HasRecent (c : Config) (past : List Step) (w : List (List ℕ)) (s : State) : Type 0 where
  pub used : List (List Slot)
  pub keeps : (ts : List Touched) → TouchedInEra c past used ts → KeepsRecent c s.moment ts s.cache.entries
  pub uses : UsesWhatIsRecent c past w used

-- With some places of the steps, the asks took their turns. The state has the place of each listed
-- ask's server, and of each route's preferred server.
pub record HasTurns (c : Config) (past : List Step) (s : State) : Type 0 where
  pub places : List ℕ
  pub turns : AsksInTurn c past places
  pub asked : AllByRecursion (λ a. AskedAt a.question past places a.server) s.asks
  pub prefers : (route : ℕ) → IsPreferred c route past places (preferred_on s route)

-- `Explains`, `IsMirrored`, `HasRecent`, `AreServed` and `AsksForThoseWhoWait`, with the same
-- owners, `GivesWhatCame`, `AsksFewTimes` and `HasTurns`
pub record FullyExplains (c : Config) (past : List Step) (w : List (List ℕ)) (s : State) : Type 0 where
  pub explained : Explains c past w s
  pub mirrored : IsMirrored c past w s
  pub recent : HasRecent c past w s
  pub served : AreServed s.asks s.waiting
  pub asked : AsksForThoseWhoWait c past w
  pub given : GivesWhatCame c past
  pub tries : AsksFewTimes c past
  pub turns : HasTurns c past s

-- a history that fully explains s, and this step, fully explain s' for some owners
abbrev pub StaysFullyExplained : Config → State → StepInput → Outcome → State → Type 0
StaysFullyExplained c s h o s' =
    (past : List Step) (w : List (List ℕ)) → FullyExplains c past w s
    → (owners : List ℕ) × FullyExplains c (record { input = h; outcome = o } ∷ past) (owners ∷ w) s'
