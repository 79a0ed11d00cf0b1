-- The first of rising numbers, from a given number on.
use Rattle.std.proofs.Common.{◌≡◌, refl, ℕ, ◌<◌, ◌≤◌, inl, inr, List, [], ◌∷◌, Option, Some, None}
use Rattle.std.proofs.Common.{arith, sym, subst}
use Rattle.std.proofs.lemmas.Bool.Decides.{nat_tests}
use Rattle.std.proofs.lemmas.Grind.{common_steps}
use Rattle.std.proofs.lemmas.Map.Keys.{sorted_head, sorted_tail}
use Rattle.std.specs.BTreeMap.Range.{range_contains}
use Rattle.std.specs.List.{AllByRecursion, filter, slice_get}
use Rattle.std.specs.List.Sorted.{IsStrictlySortedBy}
use Rattle.std.specs.Map.{keys_of}
use Rattle.std.specs.Ordering.{nat_cmp}
use Rattle.std.specs.declared.cmp.Ordering.TheVariants.{Less}
use Rattle.std.specs.declared.ops.Bound.TheVariants.{Included, Unbounded}
use Rattle.stream_connections.specs.Listed.{first_number}
use Rattle.ready_sockets.specs.Trying.{IsAmong}
use Rattle.socket_wire.proofs.Passing.{is_from_or_below}

-- the first of the keys from this number on
abbrev pub first_key : (from : ℕ) → List ℕ → Option ℕ
first_key from keys = slice_get (filter (range_contains nat_cmp (Included from) Unbounded) keys) 0

pub first_number_is : {X : Type 0} (from : ℕ) (entries : List (ℕ × X))
    → first_number from entries ≡ first_key from (keys_of entries)
first_number_is from [] = refl
first_number_is from (entry ∷ later) = grind
    (arith, nat_tests, common_steps, first_number_is from later)

-- `found` is the first of the numbers from a given number on.
pub record IsFirstFrom (from found : ℕ) (numbers : List ℕ) : Type 0 where
  pub among : IsAmong found numbers
  pub above : from ≤ found
  pub least : (other : ℕ) → IsAmong other numbers → from ≤ other → found ≤ other

-- The number found among these; none if all are below.
abbrev pub IsFound : (from : ℕ) → Option ℕ → List ℕ → Type 0
IsFound from (Some found) numbers = IsFirstFrom from found numbers
IsFound from None numbers = (other : ℕ) → IsAmong other numbers → other < from

pub all_above : (first : ℕ) (numbers : List ℕ)
    → AllByRecursion (λ other. nat_cmp first other ≡ Less) numbers
    → (other : ℕ) → IsAmong other numbers → first < other
all_above first [] above other among = absurd among
all_above first (second ∷ later) above other (inl is) =
    let less : nat_cmp first second ≡ Less = above.0 in
    let lower : first < second = grind (arith, nat_tests, common_steps) in
    omega arith
all_above first (second ∷ later) above other (inr among) = all_above first later above.1 other among

pub above_first : (first : ℕ) (later : List ℕ) → IsStrictlySortedBy nat_cmp (first ∷ later)
    → (other : ℕ)
    → IsAmong other later → first < other
above_first first later rise = all_above first later (sorted_head nat_cmp first later rise)

pub found_here : (from first : ℕ) (later : List ℕ) → from ≤ first → first_key from (first ∷ later)
    ≡ Some first
found_here from first later h = grind (arith, nat_tests, common_steps)

pub found_later : (from first : ℕ) (later : List ℕ) → first < from
    → first_key from (first ∷ later) ≡ first_key from later
found_later from first later h = grind (arith, nat_tests, common_steps)

pub is_first_here : (from first : ℕ) (later : List ℕ) → IsStrictlySortedBy nat_cmp (first ∷ later)
    → from ≤ first
    → IsFirstFrom from first (first ∷ later)
is_first_here from first later rise h = record {
  among = inl refl;
  above = h;
  least = λ other among from_on. elim among [
    | inl is ↦ omega arith
    | inr behind ↦ let above : first < other = above_first first later rise other behind in omega
        arith
  ];
}

pub is_found_later : (from first : ℕ) (found : Option ℕ) (later : List ℕ) → first < from
    → IsFound from found later
    → IsFound from found (first ∷ later)
is_found_later from first (Some found) later h is = record {
  among = inr is.among;
  above = is.above;
  least = λ other among from_on. elim among [
    | inl same ↦ absurd (omega arith)
    | inr behind ↦ is.least other behind from_on
  ];
}
is_found_later from first None later h none = λ other among. elim among [
  | inl same ↦ omega arith
  | inr behind ↦ none other behind
]

pub first_key_is_found : (from : ℕ) (numbers : List ℕ) → IsStrictlySortedBy nat_cmp numbers
    → IsFound from (first_key from numbers) numbers
first_key_is_found from [] rise = λ other among. absurd among
first_key_is_found from (first ∷ later) rise = elim (is_from_or_below from first) [
  | inl h ↦
      let here : IsFound from (Some first) (first ∷ later) = is_first_here from first later rise h
      in
      subst (λ found. IsFound from found (first ∷ later)) (sym (found_here from first later h)) here
  | inr h ↦
      let behind : IsFound from (first_key from later) later =
      first_key_is_found from later (sorted_tail nat_cmp first later rise)
      in
      subst (λ found. IsFound from found (first ∷ later)) (sym (found_later from first later h))
      (is_found_later from first (first_key from later) later h behind)
]

pub first_number_is_found : {X : Type 0} (from : ℕ) (entries : List (ℕ × X))
    → IsStrictlySortedBy nat_cmp (keys_of entries)
    → IsFound from (first_number from entries) (keys_of entries)
first_number_is_found from entries rise =
    subst (λ found. IsFound from found (keys_of entries)) (sym (first_number_is from entries))
    (first_key_is_found from (keys_of entries) rise)
