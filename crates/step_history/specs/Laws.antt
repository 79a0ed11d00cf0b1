-- Consequences of the definitions.
use Rattle.std.specs.Prelude.{◌≡◌, ℕ, ◌+◌, ◌*◌, ◌-◌, ◌^◌, ◌<◌, ◌≤◌, false, List, ◌∷◌, ◌++◌}
use Rattle.suffix_routes.specs.Values.{Config, HasNeither}
use Rattle.suffix_routes.specs.Routes.{IsRouteOf}
use Rattle.cache_laws.specs.Serving.{IsServedBy}
use Rattle.step_values.specs.Values.{Step}
use Rattle.record_cache.specs.Values.{Held}
use Rattle.step_values.specs.declared.event.Client.{Client}
use Rattle.step_values.specs.declared.action.Why.TheVariants.{TooLarge, Stale, LocalDenied}
use Rattle.step_history.specs.History.{is_restart, InEra, Look, moment_at}
use Rattle.step_history.specs.Carried.{CarriedInEra}
use Rattle.step_history.specs.Causes.{AllTriesFailed, LastFailed, ClosesNow, Cause, AnswerIsTooLarge}
use Rattle.step_history.specs.Sound.{RightReply}
use Rattle.step_history.specs.Draws.{DrawsPair}

-- Within an era moments never fall.
abbrev pub MomentsNeverFall : Type 0
MomentsNeverFall = (s : Step) (past : List Step) → is_restart s ≡ false → moment_at past ≤ moment_at (s ∷ past)

-- No moment is past 2^62 ms.
abbrev pub MomentsAreInTime : Type 0
MomentsAreInTime = (past : List Step) → moment_at past ≤ 2 ^ 62

-- The pieces carried up to a step of the era are the older part of all.
abbrev pub WhatWasCarriedStaysSo : Type 0
WhatWasCarriedStaysSo = (c : Config) (upto now : List Step) (all : List Held) → InEra upto now → CarriedInEra c now all
    → (os : List Held) × (new : List Held) × CarriedInEra c upto os × (all ≡ new ++ os)

-- If all tries of an inquiry failed, they are the last closed asks of the era for its question,
-- none closed by an accepted reply, and the last one closed in the newest step.
abbrev pub TriesAreTheLastOfTheEra : Type 0
TriesAreTheLastOfTheEra = (l : Look) (octets : List ℕ) (h : AllTriesFailed l octets)
    → LastFailed l.config h.last l.now l.config.limits.tries × ClosesNow h.last l.now

-- no `Stale` or `LocalDenied` is right, only answers from justified pieces can be too large, and
-- each name is served by its route
pub record AddsNothing (l : Look) (client : Client) (request octets : List ℕ) (waiting : ℕ) : Type 0 where
  pub stale : RightReply l client request waiting Stale octets → ⊥
  pub local : RightReply l client request waiting LocalDenied octets → ⊥
  pub large : Cause l client request waiting TooLarge → AnswerIsTooLarge l request
  pub routed : (name : List (List ℕ)) (place : ℕ) → IsRouteOf l.config.routes name place
      → IsServedBy l.config name place

-- Without a window and denying routes, version 2 adds no right reply: `AddsNothing`.
abbrev pub FirstVersionStandsAlone : Type 0
FirstVersionStandsAlone = (l : Look) (client : Client) (request octets : List ℕ) (waiting : ℕ) → HasNeither l.config
    → AddsNothing l client request octets waiting

-- Of three different words, not all draw one pair: two of 2^32 words draw it at most.
abbrev pub FewWordsDrawAPair : Type 0
FewWordsDrawAPair = (id port a b c : ℕ) → a < b → b < c → DrawsPair id port a → DrawsPair id port b
    → DrawsPair id port c → ⊥

-- Each identifier with each port from 1,024 is drawn by a word.
abbrev pub EachPairIsDrawn : Type 0
EachPairIsDrawn = (id port : ℕ) → id < 65536 → 1024 ≤ port → port < 65536
    → DrawsPair id port (id + 65536 * (port - 1024))
