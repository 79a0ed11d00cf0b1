-- Look-ups among stale entries, once no try is left: RFC 8767 5. They go along aliases, use no
-- denial, and promote nothing. Of a name that the configuration denies there is no entry, so
-- nothing is found there.
use Rattle.std.specs.Prelude.{ℕ, zero, suc, List, [], ◌∷◌, option_map, Option, Some, None}
use Rattle.dns_message.specs.Values.{Question}
use Rattle.trust_rank.specs.Walks.{target_of}
use Rattle.negative_cache.specs.RecordCache.Values.{Held}
use Rattle.negative_cache.specs.Values.{Found, local, rows, alias, no_data, denied, miss}
use Rattle.negative_cache.specs.Stale.{stale}
use Rattle.dns_message.specs.Questions.{asked_at}

-- with an alias before it, where it goes on to a set
abbrev pub stale_led : (List (List ℕ) → Option (List Held)) → Held → Option (List (List ℕ)) → Option (List Held)
stale_led onward e None = None
stale_led onward e (Some target) = option_map (λ chain. e ∷ chain) (onward target)

-- a look-up of expired data after what was found at one name; only a set ends it
abbrev pub stale_followed : (List (List ℕ) → Option (List Held)) → Found → Option (List Held)
stale_followed onward local = None
stale_followed onward (rows e) = Some (e ∷ [])
stale_followed onward (alias e) = stale_led onward e (target_of e.piece.body)
stale_followed onward (no_data e) = None
stale_followed onward (denied e) = None
stale_followed onward miss = None

-- the aliases and the set for q, within `window` seconds, with at most this number of aliases
abbrev pub look_up_stale : ℕ → ℕ → List Held → ℕ → Question → Option (List Held)
look_up_stale window n entries zero q = stale_followed (λ target. None) (stale window n entries q)
look_up_stale window n entries (suc more) q =
    stale_followed (λ target. look_up_stale window n entries more (asked_at q target)) (stale window n entries q)
