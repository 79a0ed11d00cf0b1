-- Claims that something is given: a reply that came, and an end of asking.
use Rattle.std.specs.Prelude.{ℕ, ◌<◌, List, [], ◌∷◌}
use Rattle.std.specs.List.{AllByRecursion}
use Rattle.dns_message.specs.Values.{Question}
use Rattle.suffix_routes.specs.Values.{Config}
use Rattle.trust_rank.specs.Values.{Piece, End, found, ends_no_data, ends_denied, elsewhere, lame}
use Rattle.step_values.specs.Values.{Step}
use Rattle.step_history.specs.History.{ShownAsk, listed, Reads, Accepts}
use Rattle.step_history.specs.Causes.{NoneAsks, SendsAsk, FailedSoFar}

-- the content has its end: a set, no data, or a denial, and no further name to ask for
abbrev pub EndsHere : End → Type 0
EndsHere found = Unit {0}
EndsHere ends_no_data = Unit {0}
EndsHere ends_denied = Unit {0}
EndsHere (elsewhere name) = ⊥
EndsHere lame = ⊥

-- after the step no ask for this question is listed, and the step sent no ask
pub record EndsAsking (s : Step) (past : List Step) (asked : Question) : Type 0 where
  pub none_listed : NoneAsks asked (listed (s ∷ past))
  pub none_sent : (q : Question) → SendsAsk q s.outcome.actions → ⊥

-- a step that accepts a reply whose content has its end also ends the asking for its question
abbrev pub GivesWhatCame : Config → List Step → Type 0
GivesWhatCame c [] = Unit {0}
GivesWhatCame c (s ∷ past) =
    GivesWhatCame c past
    × ((pieces servers : List Piece) (a : Accepts c s past pieces servers) → EndsHere a.end → EndsAsking s past a.asked)

-- the ask is one of its inquiry's `tries`: fewer failed before it
pub record IsOneOfTries (c : Config) (now : List Step) (a : ShownAsk) : Type 0 where
  pub question : Question
  pub reads : Reads a.octets question
  pub before : ℕ
  pub failed : FailedSoFar c question now before
  pub few : before < c.limits.tries

-- after every step each listed ask `IsOneOfTries`
abbrev pub AsksFewTimes : Config → List Step → Type 0
AsksFewTimes c [] = Unit {0}
AsksFewTimes c (s ∷ past) = AsksFewTimes c past × AllByRecursion (IsOneOfTries c (s ∷ past)) (listed (s ∷ past))
