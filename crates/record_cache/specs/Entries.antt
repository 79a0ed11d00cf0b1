-- Lists of entries, the most recently used first.
use Rattle.std.specs.Prelude.{◌≡◌, ◌<◌, ◌≤◌, ℕ, ◌+◌, ◌-◌, ◌%◌, Bool, false, if◌then◌else◌, ◌==◌, ◌&&◌, ◌||◌, not}
use Rattle.std.specs.Prelude.{nat_eq, nat_lt, List, [], ◌∷◌, ◌++◌, length, filter, drop, Option, Some, None}
use Rattle.std.specs.Int.{w64, from_be_bytes}
use Rattle.std.specs.Cmp.Lexicographic.{pointwise}
use Rattle.std.specs.List.{find, list_any, AllByRecursion}
use Rattle.dns_name.specs.Labels.{octets_of}
use Rattle.trust_rank.specs.declared.slot.Slot.{Slot}
use Rattle.trust_rank.specs.Replacing.{same_kind}
use Rattle.trust_rank.specs.Formed.{IsPiece}
use Rattle.record_cache.specs.Values.{Held, Cache}

-- equal keys, classes and types; keys have their letters in lower case
abbrev pub is_slot : Slot → Slot → Bool
is_slot a b = pointwise (pointwise nat_eq) a.key b.key && (a.class == b.class) && same_kind a.kind b.kind

-- the entry is of this slot
abbrev pub of_slot : Slot → Held → Bool
of_slot slot h = is_slot slot h.piece.slot

-- the entry of a slot
abbrev pub entry_of : Slot → List Held → Option Held
entry_of slot entries = find (of_slot slot) entries

-- an entry of the slot is there
abbrev pub has_slot : Slot → List Held → Bool
has_slot slot entries = list_any (of_slot slot) entries

-- the list without the entry of a slot
abbrev pub without : Slot → List Held → List Held
without slot entries = filter (λ h. not (of_slot slot h)) entries

-- the entry of a slot goes to the front; without an entry, nothing moves
abbrev pub promoted : Slot → List Held → List Held
promoted slot entries = filter (of_slot slot) entries ++ without slot entries

-- the number of a name error; none for a slot with a type
abbrev pub of_name_error : Option ℕ → ℕ → Option ℕ
of_name_error None number = Some number
of_name_error (Some kind) number = None

-- the number of an entry of type CNAME; none elsewhere
abbrev pub of_alias : Option ℕ → ℕ → Option ℕ
of_alias None number = None
of_alias (Some kind) number = if kind == 5 then Some number else None

-- the ending of octets: 0 for fewer than eight, otherwise the last eight as a number modulo 251,
-- and 1
abbrev pub ending_of : List ℕ → ℕ
ending_of octets =
    if nat_lt (length octets) 8 then 0 else from_be_bytes w64 (drop (length octets - 8) octets) % 251 + 1

-- the ending of a name: 0 below eight octets, otherwise the last eight as a number modulo 251, and
-- 1; so a name above has the same ending, or 0
abbrev pub ending : List (List ℕ) → ℕ
ending name = ending_of (octets_of name)

-- the octets of a name error's name, without the final zero
abbrev pub name_error_size : Slot → Option ℕ
name_error_size slot = of_name_error slot.kind (length (octets_of slot.key))

-- the ending of the name of a name error
abbrev pub name_error_ending : Slot → Option ℕ
name_error_ending slot = of_name_error slot.kind (ending slot.key)

-- the ending of the owner of an entry of type CNAME
abbrev pub alias_ending : Slot → Option ℕ
alias_ending slot = of_alias slot.kind (ending slot.key)

-- there is a number, equal to this number
abbrev pub is_number : ℕ → Option ℕ → Bool
is_number n None = false
is_number n (Some m) = m == n

-- an entry whose slot has this number is there
abbrev pub has_number : (Slot → Option ℕ) → ℕ → List Held → Bool
has_number number n entries = list_any (λ h. is_number n (number h.piece.slot)) entries

-- there is a name error of a name with this number of octets
abbrev pub has_name_error : ℕ → List Held → Bool
has_name_error size entries = has_number name_error_size size entries

-- some name error's name has no ending or this ending
abbrev pub may_deny_at : ℕ → List Held → Bool
may_deny_at n entries = has_number name_error_ending 0 entries || has_number name_error_ending n entries

-- some name error's name has no ending or the name's ending, as each name above the name has
abbrev pub may_deny : List (List ℕ) → List Held → Bool
may_deny name entries = may_deny_at (ending name) entries

-- an entry of type CNAME is there whose owner has this ending
abbrev pub may_have_alias_at : ℕ → List Held → Bool
may_have_alias_at n entries = has_number alias_ending n entries

-- an entry of type CNAME is there whose owner has the ending of the name
abbrev pub may_have_alias : List (List ℕ) → List Held → Bool
may_have_alias name entries = may_have_alias_at (ending name) entries

-- no two entries have equal slots
abbrev pub AreApart : List Held → Type 0
AreApart [] = Unit {0}
AreApart (h ∷ entries) = AllByRecursion (λ e. of_slot h.piece.slot e ≡ false) entries × AreApart entries

-- at most as many entries as the capacity, which is above 0; each well formed, no two with equal
-- slots
pub record AreHeld (cache : Cache) : Type 0 where
  pub some : 0 < cache.capacity
  pub few : length cache.entries ≤ cache.capacity
  pub apart : AreApart cache.entries
  pub formed : AllByRecursion (λ h. IsPiece h.piece) cache.entries
