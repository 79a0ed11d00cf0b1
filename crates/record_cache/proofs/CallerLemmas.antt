-- Lemmas about the cache, for proofs of crates above.
use Rattle.std.proofs.Common.{◌≡◌, ℕ, Bool, true, false, ◌&&◌, List, ◌∷◌, length, filter, Option, None, Some, arith}
use Rattle.std.specs.Bool.{Decides}
use Rattle.std.specs.List.{list_any, AllByRecursion}
use Rattle.std.specs.Option.{option_map_or}
use Rattle.dns_name.specs.Labels.{lowered, octets_of, IsSame}
use Rattle.trust_rank.specs.declared.slot.Slot.{Slot}
use Rattle.trust_rank.specs.Replacing.{same_slot}
use Rattle.trust_rank.specs.Formed.{IsPiece}
use Rattle.record_cache.specs.Values.{Held}
use Rattle.record_cache.specs.Entries.{is_slot, of_slot, entry_of, without, promoted, ending, name_error_ending, has_number, may_deny, AreApart, AreHeld}
use Rattle.record_cache.specs.Offers.{kept}
use Rattle.record_cache.specs.Laws.{Among, NoneDenies}
use Rattle.record_cache.proofs.Slots as slots
use Rattle.record_cache.proofs.Lists as lists
use Rattle.record_cache.proofs.Keeping as keeping
use Rattle.record_cache.proofs.Counting as counting
use Rattle.record_cache.proofs.Telling as telling

-- the test decides equality of slots
pub slots_decide : (a b : Slot) → Decides (is_slot a b) (a ≡ b)
slots_decide = slots.is_slot_decides

-- for slots with keys in lower case, both tests agree
pub slots_are_the_same : (a b : Slot) → lowered a.key ≡ a.key → lowered b.key ≡ b.key → is_slot a b ≡ same_slot a b
slots_are_the_same = keeping.one_slot_is_the_same

-- a slot's entry has the slot
pub entry_has_slot : (slot : Slot) (entries : List Held) (h : Held) → entry_of slot entries ≡ Some h → slot ≡ h.piece.slot
entry_has_slot slot entries h found = lists.slot_is slot h (lists.entry_is_of slot entries h found)

-- after a slot's entry no entry has the slot
pub none_behind : (slot : Slot) (h : Held) (entries : List Held) → AreApart (h ∷ entries) → of_slot slot h ≡ true → AllByRecursion (λ e. of_slot slot e ≡ false) entries
none_behind = lists.none_behind

-- an entry that passes a test is among the filtered entries
pub among_filter : (test : Held → Bool) (entries : List Held) (h : Held) → Among h entries → test h ≡ true → Among h (filter test entries)
among_filter = keeping.among_filter

-- forgetting a slot without an entry changes nothing
pub nothing_to_forget : (slot : Slot) (entries : List Held) → entry_of slot entries ≡ None → without slot entries ≡ entries
nothing_to_forget = lists.without_absent

-- a promotion keeps each slot's entry, and each property of all entries
pub promotion_keeps_entry : (slot other : Slot) (entries : List Held) → AreApart entries → entry_of other (promoted slot entries) ≡ entry_of other entries
promotion_keeps_entry = keeping.promoted_are_found

pub promoted_are_held : (capacity : ℕ) (slot : Slot) (entries : List Held) → AreHeld (record { capacity = capacity; entries = entries })
    → AreHeld (record { capacity = capacity; entries = promoted slot entries })
promoted_are_held = lists.held_promoted

-- some entry of the slot passes a test exactly if the slot's entry does
pub any_is_entry : (slot : Slot) (test : Held → Bool) (entries : List Held) → AreApart entries → list_any (λ h. of_slot slot h && test h) entries ≡ option_map_or test (entry_of slot entries) false
any_is_entry = lists.any_is_entry

-- held entries stay held without some entries, and with a kept entry
pub without_are_held : (capacity : ℕ) (slot : Slot) (entries : List Held) → AreHeld (record { capacity = capacity; entries = entries })
    → AreHeld (record { capacity = capacity; entries = without slot entries })
without_are_held = lists.held_without

pub fewer_are_held : (capacity : ℕ) (test : Held → Bool) (entries : List Held) → AreHeld (record { capacity = capacity; entries = entries })
    → AreHeld (record { capacity = capacity; entries = filter test entries })
fewer_are_held capacity test entries held = record {
  some = held.some;
  few = omega (arith, held.few, lists.length_filter test entries);
  apart = lists.apart_filter test entries held.apart;
  formed = lists.all_filter (λ h. IsPiece h.piece) test entries held.formed;
}

pub kept_are_held : (capacity : ℕ) (h : Held) (entries : List Held) → IsPiece h.piece → AreHeld (record { capacity = capacity; entries = entries })
    → AreHeld (record { capacity = capacity; entries = kept capacity h entries })
kept_are_held = lists.held_kept

-- ---- counts

-- if no entry has a slot's number, the slot has no entry
pub no_entry : (number : Slot → Option ℕ) (n : ℕ) (slot : Slot) (entries : List Held) → number slot ≡ Some n → has_number number n entries ≡ false → entry_of slot entries ≡ None
no_entry = counting.no_entry

-- equal names have equally many octets
pub size_same : (a b : List (List ℕ)) → IsSame a b → length (octets_of a) ≡ length (octets_of b)
size_same = telling.size_same

-- if no entry may deny a name, none may deny the name above
pub denied_higher : (label : List ℕ) (name : List (List ℕ)) (entries : List Held) → may_deny (label ∷ name) entries ≡ false → may_deny name entries ≡ false
denied_higher = telling.denied_higher

-- and no name error has the name's ending
pub none_at_ending : (name : List (List ℕ)) (entries : List Held) → may_deny name entries ≡ false → has_number name_error_ending (ending name) entries ≡ false
none_at_ending = telling.none_at_ending

-- and no name error is of the name or of a name above
pub none_denies : NoneDenies
none_denies = telling.none_denies
