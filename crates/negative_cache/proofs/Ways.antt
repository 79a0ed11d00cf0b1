-- A look-up in each case: the entry met, slot by slot, is the question's.
use Rattle.std.proofs.Common.{◌≡◌, ℕ, List, Option, Some, None, sym, ap, ◌∙◌}
use Rattle.dns_name.specs.Labels.{lowered}
use Rattle.dns_message.specs.Values.{Question}
use Rattle.record_cache.specs.Values.{Cache, Held}
use Rattle.record_cache.specs.Entries.{AreHeld}
use Rattle.negative_cache.specs.Values.{Found, rows, alias, no_data, denied, miss}
use Rattle.negative_cache.specs.Moments.{CacheAt}
use Rattle.negative_cache.specs.Entries.{is_set, is_no_data}
use Rattle.negative_cache.specs.Finding.{found, found_or}
use Rattle.negative_cache.specs.Stale.{stale}
use Rattle.negative_cache.specs.BySlot.{Slots, only, slots_of, typed_entry, alias_at, nearest_error, entry_within, alias_within}
use Rattle.negative_cache.proofs.Keeping.{by_slot}
use Rattle.negative_cache.proofs.StaleLookUps.{by_slot_within}

module _ (at : CacheAt) (q : Question) (held : AreHeld at.cache) where
  abbrev slots : Slots
  slots = slots_of at.cache.entries

  abbrev own : Option Held
  own = typed_entry at.moment slots (lowered q.name) q.class q.kind

  abbrev other : Option Held
  other = alias_at at.moment slots (lowered q.name) q.class q.kind

  abbrev error : Option Held
  error = nearest_error at.config.routes at.moment slots q.class (lowered q.name)

  abbrev first : Option Held → Option Held → Option Held → Option Held → Found
  first set aliased empty above = found_or rows set (found_or alias aliased (found_or no_data empty (found_or denied above miss)))

  whole : first (only is_set own) other (only is_no_data own) error ≡ found at.config.routes at.moment at.cache.entries q
  whole = by_slot at.config.routes at.moment at.cache.capacity at.cache.entries q held

  pub at_rows : (h : Held) → Some h ≡ only is_set own → rows h ≡ found at.config.routes at.moment at.cache.entries q
  at_rows h set = ap (λ (o : Option Held). first o other (only is_no_data own) error) set ∙ whole

  pub at_alias : (h : Held) → None ≡ only is_set own → Some h ≡ other → alias h ≡ found at.config.routes at.moment at.cache.entries q
  at_alias h set aliased = (λ i. first (set i) (aliased i) (only is_no_data own) error) ∙ whole

  pub at_no_data : (h : Held) → None ≡ only is_set own → None ≡ other → Some h ≡ only is_no_data own → no_data h ≡ found at.config.routes at.moment at.cache.entries q
  at_no_data h set aliased empty = (λ i. first (set i) (aliased i) (empty i) error) ∙ whole

  pub at_denied : (h : Held) → None ≡ only is_set own → None ≡ other → None ≡ only is_no_data own → Some h ≡ error → denied h ≡ found at.config.routes at.moment at.cache.entries q
  at_denied h set aliased empty above = (λ i. first (set i) (aliased i) (empty i) (above i)) ∙ whole

  pub at_miss : None ≡ only is_set own → None ≡ other → None ≡ only is_no_data own → None ≡ error → miss ≡ found at.config.routes at.moment at.cache.entries q
  at_miss set aliased empty above = (λ i. first (set i) (aliased i) (empty i) (above i)) ∙ whole

-- ---- stale entries

module _ (cache : Cache) (moment : ℕ) (q : Question) (held : AreHeld cache) (window : ℕ) where
  abbrev own_within : Option Held
  own_within = entry_within window moment (slots_of cache.entries) (lowered q.name) q.class q.kind

  abbrev other_within : Option Held
  other_within = alias_within window moment (slots_of cache.entries) (lowered q.name) q.class q.kind

  whole_within : found_or rows (only is_set own_within) (found_or alias other_within miss) ≡ stale window moment cache.entries q
  whole_within = by_slot_within window moment cache.capacity cache.entries q held

  pub past_rows : (h : Held) → Some h ≡ only is_set own_within → rows h ≡ stale window moment cache.entries q
  past_rows h set = ap (λ (o : Option Held). found_or rows o (found_or alias other_within miss)) set ∙ whole_within

  pub past_alias : (h : Held) → None ≡ only is_set own_within → Some h ≡ other_within → alias h ≡ stale window moment cache.entries q
  past_alias h set aliased = (λ i. found_or rows (set i) (found_or alias (aliased i) miss)) ∙ whole_within

  pub past_miss : None ≡ only is_set own_within → None ≡ other_within → miss ≡ stale window moment cache.entries q
  past_miss set aliased = (λ i. found_or rows (set i) (found_or alias (aliased i) miss)) ∙ whole_within
