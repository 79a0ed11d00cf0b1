-- Bounds on how soon each listed number is tried, where they are tried in turn.
use Rattle.std.specs.Prelude.{◌≡◌, ℕ, zero, suc, ◌+◌, ◌<◌, ◌⊎◌, List, Option, Some, None, unwrap_or}
use Rattle.std.specs.List.Sorted.{IsStrictlySortedBy}
use Rattle.std.specs.Ordering.{nat_cmp}
use Rattle.stream_connections.specs.Listed.{first_number}
use Rattle.ready_sockets.specs.Trying.{IsAmong, next_token}
use Rattle.socket_wire.specs.Trying.{next_from}

-- The numbers listed now rise and have this number among them. All of them are among the numbers
-- ever listed, which are below `size`.
pub record StaysListed (size number : ℕ) (ever now : List ℕ) : Type 0 where
  pub rise : IsStrictlySortedBy nat_cmp now
  pub stays : IsAmong number now
  pub known : (other : ℕ) → IsAmong other now → IsAmong other ever
  pub below : (other : ℕ) → IsAmong other ever → other < size

-- The number is found within `tries` tries, the first from `from` on. The list may change at each
-- try.
abbrev pub IsTriedWithin : {X : Type 0} → (tries size number from : ℕ) → (ℕ → List (ℕ × X)) → Type 0
IsTriedWithin zero size number from listed = ⊥
IsTriedWithin (suc tries) size number from listed =
    (first_number from (listed 0) ≡ Some number)
    ⊎ IsTriedWithin tries size number (next_from size (first_number from (listed 0)))
    (λ try. listed (try + 1))

-- A try found the number, or the sweep goes on; after a try that found none, the next sweep begins.
abbrev pub FindsOr : (number : ℕ) → Option ℕ → (goes_on next_sweep : Type 0) → Type 0
FindsOr number (Some found) goes_on next_sweep = (found ≡ number) ⊎ goes_on
FindsOr number None goes_on next_sweep = next_sweep

-- The number is found within `tries` tries of a sweep, which ends after the last listed number, or
-- in the next sweeps.
abbrev pub IsTriedInSweep : {X : Type 0} → (InNext : ℕ → (ℕ → List (ℕ × X)) → Type 0)
    → (tries size number from : ℕ) → (ℕ → List (ℕ × X)) → Type 0
IsTriedInSweep InNext zero size number from listed = InNext from listed
IsTriedInSweep InNext (suc tries) size number from listed =
    FindsOr number (first_number from (listed 0))
    (IsTriedInSweep InNext tries size number (next_from size (first_number from (listed 0)))
    (λ try. listed (try + 1)))
    (InNext 0 (λ try. listed (try + 1)))

-- The number is found within `sweeps` sweeps, each of at most `most` tries.
abbrev pub IsTriedInSweeps : {X : Type 0} → (sweeps most size number from : ℕ) → (ℕ → List (ℕ × X))
    → Type 0
IsTriedInSweeps zero most size number from listed = ⊥
IsTriedInSweeps {X} (suc sweeps) most size number from listed =
    IsTriedInSweep (IsTriedInSweeps {X = X} sweeps most size number) most size number from listed

-- The token is given within `turns` turns of a sweep of sockets, where `last` was tried last.
abbrev pub IsGivenWithin : (turns token last : ℕ) → (ℕ → List ℕ) → Type 0
IsGivenWithin zero token last tokens = ⊥
IsGivenWithin (suc turns) token last tokens =
    (next_token last (tokens 0) ≡ Some token)
    ⊎ IsGivenWithin turns token (unwrap_or (next_token last (tokens 0)) last)
    (λ turn. tokens (turn + 1))
