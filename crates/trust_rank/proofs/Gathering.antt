-- A single pass over a section gathers the set, with an index.
use Rattle.std.proofs.Common.{◌≡◌, ℕ, ◌<◌, ◌≤◌, Bool, true, false, cond, List, [], ◌∷◌, ◌++◌, length, take, drop, refl, sym, ap, ◌∙◌, arith}
use Rattle.std.specs.Prelude.{min, not, ◌||◌}
use Rattle.std.specs.Bool.{Decides}
use Rattle.std.specs.List.{list_any}
use Rattle.std.specs.Ordering.{nat_cmp, is_eq}
use Rattle.std.specs.Cmp.Lexicographic.{slice_cmp}
use Rattle.std.specs.BTreeSet.{BTreeSet, contains_by, Updates}
use Rattle.std.specs.Str.{bytes_eq}
use Rattle.std.proofs.lemmas.Bool.{or_from, or_right, cond-true, cond-false}
use Rattle.std.proofs.lemmas.List.{take-append-drop, drop_all, drop-append-le, length-append}
use Rattle.std.proofs.lemmas.List.Folds.{list_any-append}
use Rattle.std.proofs.lemmas.Map.Text.{is_eq-slice_cmp}
use Rattle.std.proofs.lemmas.Slice.Eq.{bytes_eq-Decides}
use Rattle.dns_message.specs.PlainValues.Octets.{same_octets}
use Rattle.dns_message.proofs.PlainValues.CallerLemmas.{same_octets_decides}
use Rattle.dns_message.specs.Values.{Question, Record}
use Rattle.trust_rank.specs.Sets.{is_of, records_for, with_data, with_all_data, seconds_of, lifetime_within}
use Rattle.trust_rank.specs.Gathering.{few, Indexes, added_all, lowered_by_all}
use denote.Ref.{Bor}

-- ---- a single pass gives the set

pub added_all-is : (q : Question) (kept : List (List ℕ)) (rs : List Record) → added_all q kept rs ≡ with_all_data kept (records_for q rs)
added_all-is q kept [] = refl
added_all-is q kept (r ∷ rs) = elim (is_of q r) as (λ v. added_all q (cond v (with_data kept r.rdata) kept) rs ≡ with_all_data kept (cond v (r ∷ records_for q rs) (records_for q rs))) [
  | true ↦ added_all-is q (with_data kept r.rdata) rs
  | false ↦ added_all-is q kept rs
]

pub lowered_by_all-is : (q : Question) (most : ℕ) (rs : List Record) → lowered_by_all q most rs ≡ lifetime_within most (records_for q rs)
lowered_by_all-is q most [] = refl
lowered_by_all-is q most (r ∷ rs) = elim (is_of q r) as (λ v. lowered_by_all q (cond v (min most (seconds_of r.ttl)) most) rs ≡ lifetime_within most (cond v (r ∷ records_for q rs) (records_for q rs))) [
  | true ↦ lowered_by_all-is q (min most (seconds_of r.ttl)) rs
  | false ↦ lowered_by_all-is q most rs
]

-- ---- the index

-- tests of a single fact are equal
same_tests : {P : Type 0} (r s : Bool) → Decides r P → Decides s P → r ≡ s
same_tests true true d e = refl
same_tests true false d e = sym (e.1 (d.0 refl))
same_tests false true d e = d.1 (e.0 refl)
same_tests false false d e = refl

ordered_same : (a b : List ℕ) → is_eq (slice_cmp nat_cmp a b) ≡ same_octets a b
ordered_same a b = is_eq-slice_cmp a b ∙ same_tests (bytes_eq a b) (same_octets a b) (bytes_eq-Decides a b) (same_octets_decides a b)

same_back : (a b : List ℕ) → same_octets a b ≡ same_octets b a
same_back a b = same_tests (same_octets a b) (same_octets b a) (same_octets_decides a b) (λ e. sym ((same_octets_decides b a).0 e), λ is. (same_octets_decides b a).1 (sym is))

abbrev pub has : List ℕ → List (List ℕ) → Bool
has octets rows = list_any (same_octets octets) rows

abbrev pub at : List ℕ → BTreeSet (Bor (List ℕ)) → Bool
at octets index = contains_by (λ (k : Bor (List ℕ)). slice_cmp nat_cmp octets k.now) index

has_parts : (octets : List ℕ) (rows : List (List ℕ)) → has octets rows ≡ (has octets (take few rows) || has octets (drop few rows))
has_parts octets rows = ap (has octets) (sym (take-append-drop few rows)) ∙ list_any-append (same_octets octets) (take few rows) (drop few rows)

or_nothing : (a : Bool) → (a || false) ≡ a
or_nothing true = refl
or_nothing false = refl

or_swap : (a b c : Bool) → a ≡ b → (c || a) ≡ cond b true c
or_swap true true true e = refl
or_swap true true false e = refl
or_swap false false true e = refl
or_swap false false false e = refl
or_swap true false c e = absurd cc
or_swap false true c e = absurd cc

-- data in the index is already in the set
pub known_by_index : (index : BTreeSet (Bor (List ℕ))) (rows : List (List ℕ)) (octets : List ℕ) → Indexes index rows → at octets index ≡ true → rows ≡ with_data rows octets
known_by_index index rows octets holds there =
    sym (cond-true (has octets rows) rows (rows ++ octets ∷ []) (has_parts octets rows ∙ or_right (has octets (take few rows)) (has octets (drop few rows)) (sym (holds octets) ∙ there)))

-- data neither among the first few nor in the index is new
pub new_behind : (index : BTreeSet (Bor (List ℕ))) (rows : List (List ℕ)) (octets : List ℕ) → Indexes index rows → has octets (take few rows) ≡ false → at octets index ≡ false → rows ++ octets ∷ [] ≡ with_data rows octets
new_behind index rows octets holds unknown missing =
    sym (cond-false (has octets rows) rows (rows ++ octets ∷ []) (has_parts octets rows ∙ or_from (has octets (take few rows)) (has octets (drop few rows)) unknown (sym (holds octets) ∙ missing)))

-- with fewer rows than the first few, unknown data is new
pub new_among_few : (rows : List (List ℕ)) (octets : List ℕ) → length rows < few → has octets (take few rows) ≡ false → rows ++ octets ∷ [] ≡ with_data rows octets
new_among_few rows octets short unknown =
    sym (cond-false (has octets rows) rows (rows ++ octets ∷ []) (has_parts octets rows ∙ or_from (has octets (take few rows)) (has octets (drop few rows)) unknown (ap (has octets) (drop_all few rows (omega arith)))))

pub few_are_indexed : (index : BTreeSet (Bor (List ℕ))) (rows : List (List ℕ)) (octets : List ℕ) → length rows < few → Indexes index rows → Indexes index (rows ++ octets ∷ [])
few_are_indexed index rows octets short holds = λ other.
    holds other ∙ ap (has other) (drop_all few rows (omega arith) ∙ sym (drop_all few (rows ++ octets ∷ []) (simp length-append (omega arith))))

pub more_are_indexed : (old new : BTreeSet (Bor (List ℕ))) (rows : List (List ℕ)) (key : Bor (List ℕ)) → few ≤ length rows → Indexes old rows
    → Updates (λ (x y : Bor (List ℕ)). slice_cmp nat_cmp x.now y.now) old new key true → Indexes new (rows ++ key.now ∷ [])
more_are_indexed old new rows key enough holds updated = λ other.
    updated.0 (record { ref_ptr = (0, 0); now = other })
    ∙ (λ i. cond (ordered_same key.now other i) true (holds other i))
    ∙ sym (or_swap (same_octets other key.now || false) (same_octets key.now other) (has other (drop few rows)) (or_nothing (same_octets other key.now) ∙ same_back other key.now))
    ∙ sym (ap (has other) (drop-append-le few rows (key.now ∷ []) enough) ∙ list_any-append (same_octets other) (drop few rows) (key.now ∷ []))

-- ---- the answers of calls

-- the octets are not among the first few
pub not_among : (octets row : List ℕ) (front slice rows : List (List ℕ)) (told : Bool) → octets ≡ row → front ≡ take few slice → slice ≡ rows → told ≡ has octets front → told ≡ false → has row (take few rows) ≡ false
not_among octets row front slice rows told same_octets_ same_front same_rows is isnt =
    sym (λ i. list_any (same_octets (same_octets_ i)) ((same_front ∙ ap (take few) same_rows) i)) ∙ sym is ∙ isnt

-- an element is added exactly if not found
pub was_there : (added_ found : Bool) → added_ ≡ not found → added_ ≡ false → found ≡ true
was_there added_ true is isnt = refl
was_there added_ false is isnt = sym isnt ∙ is

pub was_missing : (added_ found : Bool) → added_ ≡ not found → added_ ≡ true → found ≡ false
was_missing added_ true is did = sym did ∙ is
was_missing added_ false is did = refl
