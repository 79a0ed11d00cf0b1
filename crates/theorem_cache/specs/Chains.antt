-- Chains of look-ups and of accepted replies, as a history justifies them.
use Rattle.std.specs.Prelude.{◌≡◌, ℕ, ◌≤◌, false, List, [], ◌∷◌, ◌++◌, length, map, Some, ◌⊎◌}
use Rattle.std.specs.List.{AllByRecursion}
use Rattle.dns_message.specs.Values.{Question}
use Rattle.suffix_routes.specs.Values.{Config}
use Rattle.trust_rank.specs.Values.{Piece, End, found, ends_no_data, ends_denied, elsewhere, lame}
use Rattle.record_cache.specs.Values.{Held}
use Rattle.step_values.specs.Values.{Step}
use Rattle.step_history.specs.History.{is_restart, Look, Carries, NothingAccepted}
use Rattle.step_history.specs.Carried.{Justified}
use Rattle.step_history.specs.Answers.{IsOf, FollowsAliases, EndsChain}
use Rattle.dns_message.specs.Questions.{asked_at}
use Rattle.step_history.specs.Stale.{JustifiedStale, FollowsStale}
use Rattle.alias_chains.specs.LookingUp.{LookUpEnd, ends, too_long, missed, LookUp}
use Rattle.alias_chains.specs.Offering.{held_at}
use Rattle.read_answers.specs.Texts.{CanBeWrittenAt}

-- the `Look` of this step and history
abbrev pub look_from : Config → Step → List Step → List Step → Look
look_from c asked before now = record { config = c; asked = asked; before = before; now = now }

-- no restart: the step accepts nothing, or carries some pieces
abbrev pub GoesOn : Config → Step → List Step → Type 0
GoesOn c s past = (is_restart s ≡ false) × (NothingAccepted c s past ⊎ ((ps : List Piece) × Carries c s past ps))

-- ---- of a look-up

-- the piece can be written at t, is justified, and ends the look-up of q
abbrev pub IsRightEnd : Look → ℕ → Question → Held → Type 0
IsRightEnd l t q h = CanBeWrittenAt t h × Justified l q.name h × EndsChain q h.piece h.piece.body

-- the piece at the look-up's end, if any, `IsRightEnd`
abbrev pub EndsRight : Look → ℕ → Question → LookUpEnd → Type 0
EndsRight l t q (ends h) = IsRightEnd l t q h
EndsRight l t q too_long = Unit {0}
EndsRight l t q missed = Unit {0}

-- a look-up that is too long holds nine aliases, any other at most eight
abbrev pub IsSized : LookUpEnd → ℕ → Type 0
IsSized (ends h) k = k ≤ 8
IsSized too_long k = k ≡ 9
IsSized missed k = k ≤ 8

-- the look-up's aliases can be written and lead from q to the wanted question; `EndsRight` and
-- `IsSized` hold
pub record IsRight (l : Look) (t : ℕ) (q : Question) (v : LookUp) : Type 0 where
  pub can_write : AllByRecursion (CanBeWrittenAt t) v.held
  pub follows : FollowsAliases l q v.held v.wanted
  pub right_end : EndsRight l t v.wanted v.met
  pub sized : IsSized v.met (length v.held)

-- ---- of a look-up of expired data

-- at most `most` aliases lead from q to a set; all can be written and are `JustifiedStale`
-- (RFC 8767 5)
pub record IsRightStale (l : Look) (t : ℕ) (q : Question) (most : ℕ) (chain : List Held) : Type 0 where
  pub aliases : List Held
  pub end : Held
  pub whole : chain ≡ aliases ++ end ∷ []
  pub last : Question
  pub follows : FollowsStale l q aliases last
  pub justified : JustifiedStale l last.name end
  pub slot : IsOf end.piece last.name last.class (Some last.kind)
  pub few : length aliases ≤ most
  pub can_write : AllByRecursion (CanBeWrittenAt t) chain

-- ---- of an accepted reply

-- pieces from t: aliases from q on, and their end
pub record LeadToEnd (l : Look) (t : ℕ) (q : Question) (ps : List Piece) : Type 0 where
  pub aliases : List Piece
  pub last : Piece
  pub whole : ps ≡ aliases ++ last ∷ []
  pub to : Question
  pub follows : FollowsAliases l q (map (held_at t) aliases) to
  pub justified : Justified l to.name (held_at t last)
  pub right_end : EndsChain to last last.body

-- pieces from t: one to eight aliases from q to this name
pub record LeadOn (l : Look) (t : ℕ) (q : Question) (ps : List Piece) (name : List (List ℕ)) : Type 0 where
  pub some : 1 ≤ length ps
  pub few : length ps ≤ 8
  pub follows : FollowsAliases l q (map (held_at t) ps) (asked_at q name)
