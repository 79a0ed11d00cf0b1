-- Look-ups of stale entries (RFC 8767 5). No two entries have equal slots.
use Rattle.std.specs.Prelude.{ℕ, ◌+◌, ◌*◌, Bool, nat_lt, if◌then◌else◌, ◌==◌, ◌&&◌, List, Option, None}
use Rattle.std.specs.List.{find}
use Rattle.dns_message.specs.Values.{Question}
use Rattle.record_cache.specs.Values.{Held}
use Rattle.negative_cache.specs.Values.{Found, rows, alias, miss}
use Rattle.negative_cache.specs.Entries.{is_set}
use Rattle.negative_cache.specs.Finding.{is_of_type, found_or}

-- alive, or expired fewer than `window` seconds ago: gone at 1,000 × (lifetime + window) ms; with a
-- window of 0 just alive
abbrev pub is_within : ℕ → ℕ → Held → Bool
is_within window moment h = nat_lt moment (h.accepted + 1000 * (h.piece.lifetime + window))

-- the set of this type within the window
abbrev pub stale_set_for : ℕ → ℕ → List Held → Question → ℕ → Option Held
stale_set_for window moment entries q kind =
    find (λ h. is_of_type q kind h && (is_within window moment h && is_set h)) entries

-- the alias of the name within the window; a question for aliases follows none (RFC 1034 3.6.2)
abbrev pub stale_alias_for : ℕ → ℕ → List Held → Question → Option Held
stale_alias_for window moment entries q = if q.kind == 5 then None else stale_set_for window moment entries q 5

-- The set of the type, otherwise the alias. No denial is found, and no denial hides an alias.
abbrev pub stale : ℕ → ℕ → List Held → Question → Found
stale window moment entries q =
    found_or rows (stale_set_for window moment entries q q.kind)
    (found_or alias (stale_alias_for window moment entries q) miss)
