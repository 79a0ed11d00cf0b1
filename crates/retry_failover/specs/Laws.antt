-- Statements about the table.
use Rattle.std.specs.Prelude.{◌≡◌, ℕ, ◌+◌, ◌%◌, ◌<◌, ◌≤◌, Bool, true, false, List, [], ◌∷◌, length, min, ◌⊎◌}
use Rattle.std.specs.Prelude.{if◌then◌else◌}
use Rattle.retry_failover.specs.declared.Failure.{Failure}
use Rattle.retry_failover.specs.Inquiries.{Ask, begun, asks_from, is_cut}

-- An inquiry asks once, and once more for each failure, within its tries.
abbrev pub AsksAreCounted : Type 0
AsksAreCounted =
    (servers tries preferred : ℕ) (failures : List Failure) → 1 ≤ tries
    → length (asks_from (begun servers tries preferred) failures) ≡ min tries (length failures + 1)

-- The ask after a failed ask: after a truncated reply over UDP the same server over TCP, otherwise
-- the next server by UDP.
abbrev pub Turns : ℕ → Bool → Ask → Ask → Type 0
Turns servers true ask later = (later.tcp ≡ true) × (later.server ≡ ask.server)
Turns servers false ask later = (later.tcp ≡ false) × (later.server ≡ (ask.server + 1) % servers)

-- Each ask, its failure, and the ask after the failure.
abbrev pub AllTurn : ℕ → List Ask → List Failure → Type 0
AllTurn servers (ask ∷ later ∷ asks) (failure ∷ failures) =
    Turns servers (is_cut ask.tcp failure) ask later × AllTurn servers (later ∷ asks) failures
AllTurn servers asks failures = Unit {0}

-- each failed ask is followed by the next server, or after a truncated reply by TCP to the same
-- server
abbrev pub AsksTakeTurns : Type 0
AsksTakeTurns =
    (servers tries preferred : ℕ) (failures : List Failure)
    → AllTurn servers (asks_from (begun servers tries preferred) failures) failures

-- the number of failures that are not truncations over UDP
abbrev pub others_met : List Ask → List Failure → ℕ
others_met (ask ∷ asks) (failure ∷ failures) = (if is_cut ask.tcp failure then 0 else 1) + others_met asks failures
others_met asks failures = 0

-- one of these asks goes to the server
abbrev pub IsAsked : ℕ → List Ask → Type 0
IsAsked server [] = ⊥
IsAsked server (ask ∷ asks) = (ask.server ≡ server) ⊎ IsAsked server asks

-- If tries are left for all failures, n servers have all been asked after n - 1 failures other than
-- truncations.
abbrev pub EveryServerIsAsked : Type 0
EveryServerIsAsked =
    (servers tries preferred : ℕ) (failures : List Failure) → preferred < servers → length failures < tries
    → servers ≤ others_met (asks_from (begun servers tries preferred) failures) failures + 1
    → (server : ℕ) → server < servers → IsAsked server (asks_from (begun servers tries preferred) failures)
