-- Statements about the cache.
use Rattle.std.specs.Prelude.{◌≡◌, ◌<◌, ℕ, Bool, true, false, ◌⊎◌, List, [], ◌∷◌, length, Some}
use Rattle.dns_name.specs.Labels.{lowered, octets_of, IsSame, IsUnder}
use Rattle.trust_rank.specs.declared.slot.Slot.{Slot}
use Rattle.trust_rank.specs.Values.{Piece}
use Rattle.trust_rank.specs.Replacing.{same_slot, is_name_error}
use Rattle.trust_rank.specs.Formed.{IsPiece}
use Rattle.record_cache.specs.Values.{Held}
use Rattle.record_cache.specs.Entries.{is_slot, of_slot, entry_of, has_slot, without, promoted, has_name_error}
use Rattle.record_cache.specs.Entries.{may_deny, may_have_alias, AreApart, AreHeld}
use Rattle.record_cache.specs.Offers.{answer, kept, offered}
use Rattle.record_cache.specs.declared.cache.Offered.{Offered}
use Rattle.record_cache.specs.declared.cache.Offered.TheVariants.{Unkept}

-- the list has this entry
abbrev pub Among : Held → List Held → Type 0
Among h [] = ⊥
Among h (e ∷ entries) = (e ≡ h) ⊎ Among h entries

-- the entry is the last of the list
abbrev pub IsLast : Held → List Held → Type 0
IsLast h [] = ⊥
IsLast h (e ∷ []) = e ≡ h
IsLast h (e ∷ f ∷ entries) = IsLast h (f ∷ entries)

-- the entry is the last of a full cache, and makes room for a new slot
pub record IsDropped (capacity : ℕ) (slot : Slot) (h : Held) (entries : List Held) : Type 0 where
  pub new : has_slot slot entries ≡ false
  pub full : length entries ≡ capacity
  pub last : IsLast h entries

-- The piece kept last is the entry of its slot.
abbrev pub KeptIsFound : Type 0
KeptIsFound = (capacity : ℕ) (h : Held) (entries : List Held) → 0 < capacity
    → entry_of h.piece.slot (kept capacity h entries) ≡ Some h

-- An offer runs out of memory only if its slot has no entry.
abbrev pub UnkeptIsNew : Type 0
UnkeptIsNew = (moment : ℕ) (room : Bool) (piece : Piece) (entries : List Held)
    → answer moment room piece entries ≡ Unkept
    → (room ≡ false) × (has_slot piece.slot entries ≡ false)

-- After an offer with any result, all entries stay but the slot's entry and the dropped entry.
abbrev pub OfferedStay : Type 0
OfferedStay = (capacity moment : ℕ) (end : Offered) (piece : Piece) (entries : List Held) (h : Held)
    → AreHeld (record { capacity = capacity; entries = entries }) → Among h entries
    → Among h (offered end capacity moment piece entries)
    ⊎ ((of_slot piece.slot h ≡ true) ⊎ IsDropped capacity piece.slot h entries)

-- Forgetting a slot leaves the entries of all different slots.
abbrev pub OthersStay : Type 0
OthersStay = (slot : Slot) (entries : List Held) (h : Held) → Among h entries
    → Among h (without slot entries) ⊎ (of_slot slot h ≡ true)

-- A promotion leaves all entries.
abbrev pub PromotedStay : Type 0
PromotedStay = (slot : Slot) (entries : List Held) (h : Held) → Among h entries
    → Among h (promoted slot entries)

-- A promotion changes no look-up.
abbrev pub PromotedAreFound : Type 0
PromotedAreFound = (slot other : Slot) (entries : List Held) → AreApart entries
    → entry_of other (promoted slot entries) ≡ entry_of other entries

-- Slots with keys in lower case, as all slots have, are equal if they are the same.
abbrev pub OneSlotIsTheSame : Type 0
OneSlotIsTheSame = (a b : Slot) → lowered a.key ≡ a.key → lowered b.key ≡ b.key
    → is_slot a b ≡ same_slot a b

-- If no name error has the size of a name, the name has no name error.
abbrev pub NoneOfSize : Type 0
NoneOfSize = (name : List (List ℕ)) (entries : List Held) (h : Held) → Among h entries → IsPiece h.piece
    → has_name_error (length (octets_of name)) entries ≡ false
    → is_name_error h.piece ≡ true → IsSame name h.piece.slot.key → ⊥

-- If no name error may deny a name, neither the name nor any name above has a name error.
abbrev pub NoneDenies : Type 0
NoneDenies = (name : List (List ℕ)) (entries : List Held) (h : Held) → Among h entries → IsPiece h.piece
    → may_deny (lowered name) entries ≡ false
    → is_name_error h.piece ≡ true → IsUnder name h.piece.slot.key → ⊥

-- If there may be no alias, the name has no entry of type CNAME.
abbrev pub NoAliasIsThere : Type 0
NoAliasIsThere = (name : List (List ℕ)) (entries : List Held) (h : Held) → Among h entries → IsPiece h.piece
    → may_have_alias (lowered name) entries ≡ false
    → h.piece.slot.kind ≡ Some 5 → IsSame name h.piece.slot.key → ⊥
