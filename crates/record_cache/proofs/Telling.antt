-- Endings of names and of the names above, and the meaning of counts by sizes and endings.
use Rattle.std.proofs.Common.{◌≡◌, ℕ, zero, suc, ◌+◌, ◌-◌, ◌<◌, ◌≤◌, ◌%◌, Bool, true, false, ◌||◌, nat_lt, ◌⊎◌, inl, inr, List, [], ◌∷◌, ◌++◌, length, map, drop, Option, None, Some, refl, sym, ap, subst, ◌∙◌, arith, length-append}
use Rattle.std.specs.Prelude.{is_none}
use Rattle.std.specs.Int.{w64, from_be_bytes}
use Rattle.std.specs.Char.{to_ascii_lowercase}
use Rattle.std.proofs.lemmas.Bool.{cases_lt}
use Rattle.std.proofs.lemmas.Bool.Decides.{nat_tests}
use Rattle.std.proofs.lemmas.List.{length-map, map-append}
use Rattle.dns_name.specs.Labels.{octets_of, label_octets, labels_of, lowered, IsLaidOut, IsSame, IsUnder}
use Rattle.dns_name.specs.KeyLaws.{size_of-is}
use Rattle.dns_name.proofs.KeyOf.{lower_octets}
use Rattle.dns_name.proofs.CallerLemmas.{same_as_many_octets, lowered_again}
use Rattle.trust_rank.specs.declared.slot.Slot.{Slot}
use Rattle.trust_rank.specs.Formed.{IsPiece}
use Rattle.record_cache.specs.Values.{Held}
use Rattle.record_cache.specs.Entries.{of_name_error, of_alias, ending_of, ending, name_error_size, name_error_ending, alias_ending, has_number, may_deny}
use Rattle.record_cache.specs.Storing.{marks_of}
use Rattle.record_cache.specs.Laws.{NoneOfSize, NoneDenies, NoAliasIsThere}
use Rattle.record_cache.proofs.Counting.{none_among, or_left, or_right}

-- ---- endings

less : (a b : ℕ) → a < b → nat_lt a b ≡ true
less a b h = grind (arith, nat_tests)

not_less : (a b : ℕ) → b ≤ a → nat_lt a b ≡ false
not_less a b h = grind (arith, nat_tests)

abbrev pub last_eight : List ℕ → List ℕ
last_eight octets = drop (length octets - 8) octets

last_same : (front back : List ℕ) → 8 ≤ length back → last_eight (front ++ back) ≡ last_eight back
last_same [] back long = refl
last_same (x ∷ front) back long =
    let one : length (x ∷ front ++ back) - 8 ≡ suc (length (front ++ back) - 8) = omega (arith, length-append front back, long) in
    rw one (last_same front back long)

pub ending_short : (octets : List ℕ) → length octets < 8 → ending_of octets ≡ 0
ending_short octets short = rw (less (length octets) 8 short) refl

pub ending_long : (octets : List ℕ) → 8 ≤ length octets → ending_of octets ≡ from_be_bytes w64 (last_eight octets) % 251 + 1
ending_long octets long = rw (not_less (length octets) 8 long) refl

-- the end of octets has no ending or the octets' ending
ending_behind : (front back : List ℕ) → (ending_of back ≡ 0) ⊎ (ending_of back ≡ ending_of (front ++ back))
ending_behind front back = elim (cases_lt (length back) 8) [
  | inl short ↦ inl (ending_short back short)
  | inr long ↦ inr (ending_long back long ∙ ap (λ (os : List ℕ). from_be_bytes w64 os % 251 + 1) (sym (last_same front back long)) ∙ sym (ending_long (front ++ back) (omega (arith, long, length-append front back))))
]

-- ---- the code's ending

map_drop : (n : ℕ) (xs : List ℕ) → map to_ascii_lowercase (drop n xs) ≡ drop n (map to_ascii_lowercase xs)
map_drop zero xs = refl
map_drop (suc n) [] = refl
map_drop (suc n) (x ∷ xs) = map_drop n xs

pub code_short : (octets : List ℕ) → IsLaidOut octets → length octets < 8 → 0 ≡ ending (lowered (labels_of octets))
code_short octets laid short =
    sym (ending_short (octets_of (lowered (labels_of octets))) (omega (arith, short, ap length (lower_octets octets laid), length-map octets to_ascii_lowercase)))

pub code_long : (octets last : List ℕ) → IsLaidOut octets → 8 ≤ length octets → last ≡ map to_ascii_lowercase (last_eight octets)
    → from_be_bytes w64 last % 251 + 1 ≡ ending (lowered (labels_of octets))
code_long octets last laid long is =
    let size : length octets ≡ length (map to_ascii_lowercase octets) = sym (length-map octets to_ascii_lowercase) in
    let same : last ≡ last_eight (octets_of (lowered (labels_of octets))) =
    is ∙ map_drop (length octets - 8) octets ∙ ap (λ (n : ℕ). drop (n - 8) (map to_ascii_lowercase octets)) size ∙ ap last_eight (lower_octets octets laid) in
    ap (λ (os : List ℕ). from_be_bytes w64 os % 251 + 1) same
    ∙ sym (ending_long (octets_of (lowered (labels_of octets))) (omega (arith, long, ap length (lower_octets octets laid), length-map octets to_ascii_lowercase)))

-- the ending of a key, from the key's octets
pub key_short : (octets : List ℕ) (key : List (List ℕ)) → IsLaidOut octets → labels_of octets ≡ key → length octets < 8 → 0 ≡ ending key
key_short octets key laid is short = sym (ending_short octets short) ∙ ap ending_of (sym laid.whole) ∙ ap ending is

pub key_long : (octets last : List ℕ) (key : List (List ℕ)) → IsLaidOut octets → labels_of octets ≡ key → 8 ≤ length octets → last ≡ last_eight octets
    → from_be_bytes w64 last % 251 + 1 ≡ ending key
key_long octets last key laid is long same =
    ap (λ (os : List ℕ). from_be_bytes w64 os % 251 + 1) same ∙ sym (ending_long octets long) ∙ ap ending_of (sym laid.whole) ∙ ap ending is

-- ---- names above a name

either_false : (a b : Bool) → a ≡ false → b ≡ false → (a || b) ≡ false
either_false true b h k = h
either_false false b h k = k

-- if no entry may deny a name, none may deny the name above
pub denied_higher : (label : List ℕ) (name : List (List ℕ)) (entries : List Held) → may_deny (label ∷ name) entries ≡ false → may_deny name entries ≡ false
denied_higher label name entries none = both (ending_behind (label_octets label) (octets_of name))
  where
    at_none : has_number name_error_ending 0 entries ≡ false
    at_none = or_left (has_number name_error_ending 0 entries) (has_number name_error_ending (ending (label ∷ name)) entries) none

    at_own : has_number name_error_ending (ending (label ∷ name)) entries ≡ false
    at_own = or_right (has_number name_error_ending 0 entries) (has_number name_error_ending (ending (label ∷ name)) entries) none

    both : (ending name ≡ 0) ⊎ (ending name ≡ ending (label ∷ name)) → may_deny name entries ≡ false
    both (inl none_is) =
        either_false (has_number name_error_ending 0 entries) (has_number name_error_ending (ending name) entries) at_none (subst (λ (n : ℕ). has_number name_error_ending n entries ≡ false) (sym none_is) at_none)
    both (inr same) =
        either_false (has_number name_error_ending 0 entries) (has_number name_error_ending (ending name) entries) at_none (subst (λ (n : ℕ). has_number name_error_ending n entries ≡ false) (sym same) at_own)

pub denied_above : (front name : List (List ℕ)) (entries : List Held) → may_deny (front ++ name) entries ≡ false → may_deny name entries ≡ false
denied_above [] name entries none = none
denied_above (label ∷ front) name entries none = denied_above front name entries (denied_higher label (front ++ name) entries none)

-- if no entry may deny a name, no name error has the name's ending
pub none_at_ending : (name : List (List ℕ)) (entries : List Held) → may_deny name entries ≡ false → has_number name_error_ending (ending name) entries ≡ false
none_at_ending name entries none = or_right (has_number name_error_ending 0 entries) (has_number name_error_ending (ending name) entries) none

-- ---- the meaning of the counts

kind_none : (kind : Option ℕ) → is_none kind ≡ true → None ≡ kind
kind_none None e = refl
kind_none (Some kind) e = absurd cc

error_number : (kind : Option ℕ) (n : ℕ) → is_none kind ≡ true → of_name_error kind n ≡ Some n
error_number None n e = refl
error_number (Some kind) n e = absurd cc

key_lower : (h : Held) → IsPiece h.piece → lowered h.piece.slot.key ≡ h.piece.slot.key
key_lower h piece = ap lowered piece.key ∙ lowered_again h.piece.owner ∙ sym piece.key

pub size_same : (a b : List (List ℕ)) → IsSame a b → length (octets_of a) ≡ length (octets_of b)
size_same a b same = omega (arith, same_as_many_octets a b same, size_of-is a, size_of-is b)

pub none_of_size : NoneOfSize
none_of_size name entries h among piece none error same =
    none_among name_error_size (length (octets_of name)) entries h among
    (error_number h.piece.slot.kind (length (octets_of h.piece.slot.key)) error ∙ ap Some (sym (size_same name h.piece.slot.key same))) none

-- a name error's marks, by the owner's octets
pub error_marks : (octets : List ℕ) (owner : List (List ℕ)) (end class : ℕ) (kind : Option ℕ) (slot : Slot) → IsLaidOut octets → labels_of octets ≡ owner → kind ≡ None
    → record { class = class; kind = kind; key = lowered owner } ≡ slot → end ≡ ending (lowered (labels_of octets))
    → record { size = Some (length octets); ending = Some end; alias = None } ≡ marks_of slot
error_marks octets owner end class kind slot laid labels none is told =
    let key : lowered (labels_of octets) ≡ lowered owner = ap lowered labels in
    let size : length octets ≡ length (octets_of (lowered owner)) =
    ap length (sym laid.whole) ∙ size_same (labels_of octets) (lowered (labels_of octets)) (sym (lowered_again (labels_of octets))) ∙ ap (λ (k : List (List ℕ)). length (octets_of k)) key in
    let at_end : end ≡ ending (lowered owner) = told ∙ ap ending key in
    (λ i. record { size = Some (size i); ending = Some (at_end i); alias = None })
    ∙ ap (λ (k : Option ℕ). marks_of (record { class = class; kind = k; key = lowered owner })) (sym none)
    ∙ ap marks_of is

-- a name under a key ends in the key
pub under_denies : (name key : List (List ℕ)) (entries : List Held) → lowered key ≡ key → IsUnder name key → may_deny (lowered name) entries ≡ false → may_deny key entries ≡ false
under_denies name key entries lower under none =
    let is : lowered name ≡ lowered under.0 ++ key =
    ap lowered under.2 ∙ map-append (map to_ascii_lowercase) under.0 under.1 ∙ ap (λ (k : List (List ℕ)). lowered under.0 ++ k) (under.3 ∙ lower) in
    denied_above (lowered under.0) key entries (subst (λ (n : List (List ℕ)). may_deny n entries ≡ false) is none)

pub none_denies : NoneDenies
none_denies name entries h among piece none error under =
    none_among name_error_ending (ending h.piece.slot.key) entries h among
    (error_number h.piece.slot.kind (ending h.piece.slot.key) error)
    (none_at_ending h.piece.slot.key entries (under_denies name h.piece.slot.key entries (key_lower h piece) under none))

pub no_alias_is_there : NoAliasIsThere
no_alias_is_there name entries h among piece none alias same =
    none_among alias_ending (ending (lowered name)) entries h among
    (ap (λ (kind : Option ℕ). of_alias kind (ending h.piece.slot.key)) alias ∙ ap (λ (k : List (List ℕ)). Some (ending k)) (sym (same ∙ key_lower h piece))) none
