-- Equal names, names under a suffix, and names with equal keys.
use Rattle.std.proofs.Common.{◌<◌, ◌≡◌, ℕ, ◌+◌, ◌-◌, ◌≤◌, List, [], ◌∷◌, length, take, drop, map, refl, sym, ap, ◌∙◌, arith}
use Rattle.std.proofs.Common.{Bool, true, false, ◌&&◌, nat_eq, nat_le, le-leb}
use Rattle.std.specs.Bool.{Decides}
use Rattle.std.specs.Cmp.Lexicographic.{pointwise}
use Rattle.std.proofs.lemmas.Bool.{leb-true}
use Rattle.std.proofs.lemmas.Bool.Decides.{Decides-eqb}
use Rattle.std.proofs.lemmas.Slice.Eq.{slice_eq-Decides}
use Rattle.std.specs.Char.{to_ascii_lowercase}
use Rattle.std.proofs.lemmas.List.{drop_at, drop-map, length-map, length-append, length-drop, drop-drop, drop_all, take-append-drop}
use Rattle.dns_name.specs.Labels.{octets_of, size_of, IsName, IsSame, IsUnder, same, is_under, lowered, labels_of, IsLaidOut}
use Rattle.dns_name.proofs.LabelLaws.{labels_of-octets_of, laid_out, same_under, size_of-lowered, size_of-append, size_of-some}
use Rattle.dns_name.proofs.KeyOf.{lowered_twice, name-lowered}

-- ---- equality of names is an equivalence

pub same_refl : (a : List (List ℕ)) → IsSame a a
same_refl a = refl

pub same_sym : (a b : List (List ℕ)) → IsSame a b → IsSame b a
same_sym a b same = sym same

pub same_trans : (a b c : List (List ℕ)) → IsSame a b → IsSame b c → IsSame a c
same_trans a b c first second = first ∙ second

pub same_count : (a b : List (List ℕ)) → IsSame a b → length a ≡ length b
same_count a b same = omega (arith, ap length same, length-map a (map to_ascii_lowercase), length-map b (map to_ascii_lowercase))

-- equal names have equally many octets
pub same_size : (a b : List (List ℕ)) → IsSame a b → size_of a ≡ size_of b
same_size a b same = sym (size_of-lowered a) ∙ ap size_of same ∙ size_of-lowered b

-- equal names without their first k labels are equal
pub same_drop : (k : ℕ) (a b : List (List ℕ)) → IsSame a b → IsSame (drop k a) (drop k b)
same_drop k a b same = sym (drop-map (map to_ascii_lowercase) k a) ∙ ap (drop k) same ∙ drop-map (map to_ascii_lowercase) k b

-- ---- n is under s if the last labels of n, as many as s has, equal s

pub record EndsIn (n s : List (List ℕ)) : Type 0 where
  pub fewer : length s ≤ length n
  pub last : IsSame (drop (length n - length s) n) s

pub under_ends : (n s : List (List ℕ)) → IsUnder n s → EndsIn n s
under_ends n s (front, back, parts, same) =
    let whole : length n ≡ length front + length back = ap length parts ∙ length-append front back in
    let cut : length n - length s ≡ length front = omega (arith, whole, same_count back s same) in
    record {
      fewer = omega (arith, whole, same_count back s same);
      last = rw cut (rw parts (rw (drop_at front back (length front) refl) same));
    }

pub ends_under : (n s : List (List ℕ)) → EndsIn n s → IsUnder n s
ends_under n s ends =
    (take (length n - length s) n, drop (length n - length s) n, sym (take-append-drop (length n - length s) n), ends.last)

-- ---- names that stay under a suffix

pub under_refl : (n : List (List ℕ)) → IsUnder n n
under_refl n = same_under n n refl

pub under_root : (n : List (List ℕ)) → IsUnder n []
under_root n = ends_under n [] (record { fewer = omega arith; last = ap lowered (drop_all (length n - 0) n (omega arith)) })

-- if n is under s, each name equal to n is under each name equal to s
pub under_same_names : (n m s t : List (List ℕ)) → IsSame n m → IsSame s t → IsUnder n s → IsUnder m t
under_same_names n m s t nm st under =
    let ends = under_ends n s under in
    let cut : length m - length t ≡ length n - length s = omega (arith, same_count n m nm, same_count s t st) in
    ends_under m t (record {
      fewer = omega (arith, ends.fewer, same_count n m nm, same_count s t st);
      last = rw cut (sym (same_drop (length n - length s) n m nm) ∙ ends.last ∙ st);
    })

pub under_trans : (a b c : List (List ℕ)) → IsUnder a b → IsUnder b c → IsUnder a c
under_trans a b c ab bc =
    let first = under_ends a b ab in
    let second = under_ends b c bc in
    let k : ℕ = length b - length c in
    let cut : length a - length c ≡ (length a - length b) + k = omega (arith, first.fewer, second.fewer) in
    let last : IsSame (drop k (drop (length a - length b) a)) (drop k b) = same_drop k (drop (length a - length b) a) b first.last in
    ends_under a c (record {
      fewer = omega (arith, first.fewer, second.fewer);
      last = rw cut (rw drop-drop at last ∙ second.last);
    })

-- if a name is under s, so is the name without its first k labels, if s has no more labels
pub end_under : (k : ℕ) (n s : List (List ℕ)) → k + length s ≤ length n → IsUnder n s → IsUnder (drop k n) s
end_under k n s long under =
    let ends = under_ends n s under in
    let shorter : length (drop k n) ≡ length n - k = length-drop k n in
    let left : k + (length (drop k n) - length s) ≡ length n - length s = omega (arith, shorter, long, ends.fewer) in
    ends_under (drop k n) s (record { fewer = omega (arith, shorter, long); last = rw (drop-drop, left) ends.last })

-- suffixes of a name with equally many labels are equal
pub under_count : (n s t : List (List ℕ)) → IsUnder n s → IsUnder n t → length s ≡ length t → IsSame s t
under_count n s t ns nt count =
    let a = under_ends n s ns in
    let b = under_ends n t nt in
    let cut : length n - length s ≡ length n - length t = omega (arith, count) in
    sym a.last ∙ rw cut b.last

-- of two suffixes of a name, the suffix with no fewer labels is under the other
pub under_longer : (n s t : List (List ℕ)) → IsUnder n s → IsUnder n t → length t ≤ length s → IsUnder s t
under_longer n s t ns nt le =
    let a = under_ends n s ns in
    let b = under_ends n t nt in
    let k : ℕ = length s - length t in
    let cut : (length n - length s) + k ≡ length n - length t = omega (arith, a.fewer, b.fewer, le) in
    let inner : IsSame (drop k (drop (length n - length s) n)) (drop k s) = same_drop k (drop (length n - length s) n) s a.last in
    ends_under s t (record { fewer = le; last = sym (rw (drop-drop, cut) at inner) ∙ b.last })

-- of two suffixes of a name, the suffix with more labels has more octets
pub more_labels : (n s t : List (List ℕ)) → IsUnder n s → IsUnder n t → length t < length s → size_of t < size_of s
more_labels n s t ns nt lt = longer s t (under_longer n s t ns nt (omega arith)) lt
  where
    longer : (s t : List (List ℕ)) → IsUnder s t → length t < length s → size_of t < size_of s
    longer s t ([], back, parts, same) lt = absurd (omega (arith, ap length parts, same_count back t same))
    longer s t ((l ∷ front), back, parts, same) lt = omega (arith, ap size_of parts, size_of-append (l ∷ front) back, size_of-some front, same_size back t same)

-- ---- the tests

pub same_decides : (a b : List (List ℕ)) → Decides (same a b) (IsSame a b)
same_decides a b = slice_eq-Decides (λ x y. slice_eq-Decides Decides-eqb x y (pointwise nat_eq x y) refl) (lowered a) (lowered b) (same a b) refl

both : (x y : Bool) → (x && y) ≡ true → (x ≡ true) × (y ≡ true)
both true y e = (refl, e)
both false y e = absurd cc

pub is_under_decides : (n s : List (List ℕ)) → Decides (is_under n s) (IsUnder n s)
is_under_decides n s =
    let last = same_decides (drop (length n - length s) n) s in (
      λ e.
          let parts = both (nat_le (length s) (length n)) (same (drop (length n - length s) n) s) e in
          ends_under n s (record { fewer = leb-true (length s) (length n) parts.0; last = last.0 parts.1 }),
      λ under.
          let ends = under_ends n s under in
          rw (le-leb (length s) (length n) ends.fewer, last.1 ends.last) refl,
    )

-- tests of equivalent facts are equal
pub equal_tests : {P Q : Type 0} (a b : Bool) → Decides a P → Decides b Q → (P → Q) → (Q → P) → a ≡ b
equal_tests true true first second there back = refl
equal_tests false false first second there back = refl
equal_tests true false first second there back = absurd (let no : false ≡ true = second.1 (there (first.0 refl)) in cc)
equal_tests false true first second there back = absurd (let no : false ≡ true = first.1 (back (second.0 refl)) in cc)

-- the tests give equal answers for equal names
pub same_respects : (n m s t : List (List ℕ)) → IsSame n m → IsSame s t → same n s ≡ same m t
same_respects n m s t nm st =
    equal_tests (same n s) (same m t) (same_decides n s) (same_decides m t) (λ ns. sym nm ∙ ns ∙ st) (λ mt. nm ∙ mt ∙ sym st)

pub is_under_respects : (n m s t : List (List ℕ)) → IsSame n m → IsSame s t → is_under n s ≡ is_under m t
is_under_respects n m s t nm st =
    equal_tests (is_under n s) (is_under m t) (is_under_decides n s) (is_under_decides m t)
    (λ ns. under_same_names n m s t nm st ns) (λ mt. under_same_names m n t s (sym nm) (sym st) mt)

-- a call's answer about P equals each test that decides P
pub told : {P : Type 0} (answer test : Bool) → (answer ≡ true → P) × (P → answer ≡ true) → Decides test P → answer ≡ test
told true true answered decided = refl
told false false answered decided = refl
told true false answered decided = absurd (let no : false ≡ true = decided.1 (answered.0 refl) in cc)
told false true answered decided = absurd (let no : false ≡ true = answered.1 (decided.0 refl) in cc)

-- ---- names and their octets

pub octets_laid : (labels : List (List ℕ)) → IsName labels → IsLaidOut (octets_of labels)
octets_laid labels name = laid_out labels name

pub labels_octets : (labels : List (List ℕ)) → labels_of (octets_of labels) ≡ labels
labels_octets labels = labels_of-octets_of labels

-- ---- keys

-- a key's key is the key
pub lowered_again : (labels : List (List ℕ)) → lowered (lowered labels) ≡ lowered labels
lowered_again [] = refl
lowered_again (l ∷ ls) = rw (lowered_twice l, lowered_again ls) refl

-- a name equals its key
pub same_lowered : (labels : List (List ℕ)) → IsSame (lowered labels) labels
same_lowered labels = lowered_again labels

pub name_lowered : (labels : List (List ℕ)) → IsName labels → IsName (lowered labels)
name_lowered labels name = name-lowered labels name
