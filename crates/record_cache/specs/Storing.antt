-- The entries in the `lru` cache, and the counts next to it.
use Rattle.std.specs.Prelude.{◌≡◌, ◌<◌, ◌^◌, ℕ, ◌+◌, if◌then◌else◌, List, [], ◌∷◌, map, fold, get_or, Option, Some, None}
use Rattle.std.specs.Prelude.{IfSome}
use Rattle.std.specs.Map.{values_of}
use Rattle.std.specs.declared.hash.Hasher as hasher
use Rattle.std.specs.declared.hash.BuildHasher as builder
use Rattle.lru.specs.LruCache.{LruCache}
use Rattle.trust_rank.specs.declared.slot.Slot.{Slot}
use Rattle.trust_rank.specs.contracts.slot.SlotHash.TheImpl.{hash_input-value}
use Rattle.record_cache.specs.Values.{Held}
use Rattle.record_cache.specs.Entries.{name_error_size, name_error_ending, alias_ending, is_number, AreHeld}
use Rattle.record_cache.specs.declared.counts.Marks.{Marks}
use Rattle.record_cache.specs.declared.counts.Tables.{Tables}
use Rattle.record_cache.specs.declared.hashed.HashedSlot.{HashedSlot}

-- the hash that a hasher makes of a slot
abbrev pub hash_of : {S H : Type 0} → builder.Ghosts S H → hasher.Ghosts H → S → Slot → ℕ
hash_of build feed s slot = feed.finish (fold feed.write (build.build_hasher s) (hash_input-value.it slot))

-- a slot with the hash that is made of it so
abbrev pub hashed : (Slot → ℕ) → Slot → HashedSlot
hashed hash slot = record { hash = hash slot; slot = slot }

-- each entry under its slot with the slot's hash
abbrev pub keyed : (Slot → ℕ) → List Held → List (HashedSlot × Held)
keyed hash entries = map (λ h. (hashed hash h.piece.slot, h)) entries

-- the number of an entry, if there is an entry and a number
abbrev pub number_in : (Slot → Option ℕ) → Option Held → Option ℕ
number_in number None = None
number_in number (Some h) = number h.piece.slot

-- the numbers for counting the entry of a slot
abbrev pub marks_of : Slot → Marks
marks_of slot = record { size = name_error_size slot; ending = name_error_ending slot; alias = alias_ending slot }

-- the marks of an entry, if any
abbrev pub marks_in : Option Held → Marks
marks_in h = record {
  size = number_in name_error_size h;
  ending = number_in name_error_ending h;
  alias = number_in alias_ending h;
}

-- a table has a place for each
pub record AreFew (marks : Marks) : Type 0 where
  pub size : IfSome marks.size (λ n. n < 256)
  pub ending : IfSome marks.ending (λ n. n < 256)
  pub alias : IfSome marks.alias (λ n. n < 256)

-- 1 for an equal number, otherwise 0
abbrev pub one_if : ℕ → Option ℕ → ℕ
one_if n number = if is_number n number then 1 else 0

-- how many entries have this number
abbrev pub counted : (Slot → Option ℕ) → ℕ → List Held → ℕ
counted number n [] = 0
counted number n (h ∷ entries) = one_if n (number h.piece.slot) + counted number n entries

-- the counts are the entries' counts
abbrev pub AreCounted : (Slot → Option ℕ) → List ℕ → List Held → Type 0
AreCounted number counts entries = (n : ℕ) → get_or counts n 0 ≡ counted number n entries

-- the number has a place, with a count above 0
abbrev pub HasOne : List ℕ → Option ℕ → Type 0
HasOne counts number = IfSome number (λ n. (n < 256) × (0 < get_or counts n 0))

-- the number has a place, with room for one more
abbrev pub HasRoom : List ℕ → Option ℕ → Type 0
HasRoom counts number = IfSome number (λ n. (n < 256) × (get_or counts n 0 + 1 < 2 ^ 64))

-- the second counts are the first with one more of a number
abbrev pub OneMore : List ℕ → Option ℕ → List ℕ → Type 0
OneMore more number less = (n : ℕ) → get_or more n 0 ≡ one_if n number + get_or less n 0

-- the counts with one more entry with these marks
pub record AreOneMore (more : Tables) (marks : Marks) (less : Tables) : Type 0 where
  pub sizes : OneMore more.sizes.counts marks.size less.sizes.counts
  pub endings : OneMore more.endings.counts marks.ending less.endings.counts
  pub aliases : OneMore more.aliases.counts marks.alias less.aliases.counts

-- what holds of the two at all times, where a slot's hash is made so
pub record IsStored (hash : Slot → ℕ) (stored : LruCache HashedSlot Held) (tables : Tables) : Type 0 where
  pub keyed : stored.entries ≡ keyed hash (values_of stored.entries)
  pub fits : stored.cap < 2 ^ 64
  pub held : AreHeld (record { capacity = stored.cap; entries = values_of stored.entries })
  pub sizes : AreCounted name_error_size tables.sizes.counts (values_of stored.entries)
  pub endings : AreCounted name_error_ending tables.endings.counts (values_of stored.entries)
  pub aliases : AreCounted alias_ending tables.aliases.counts (values_of stored.entries)
