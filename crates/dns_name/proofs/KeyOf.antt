-- The key of a name.
use Rattle.std.proofs.Common.{◌≡◌, ℕ, suc, ◌+◌, ◌-◌, ◌<◌, ◌≤◌, List, [], ◌∷◌, ◌++◌, length, take, drop, map, replicate, get_or, set, refl, sym, ap, subst, ◌∙◌, append_assoc, arith}
use Rattle.std.specs.List.{AllByRecursion}
use Rattle.std.proofs.Common.{Bool, true, false, ◌&&◌, eqb}
use Rattle.std.specs.Bool.{Decides}
use Rattle.std.specs.Cmp.Lexicographic.{pointwise, bytes_decides}
use Rattle.std.proofs.lemmas.Bool.Decides.{Decides-eqb, same_from_decides}
use Rattle.std.proofs.lemmas.Slice.Eq.{slice_eq-Decides}
use Rattle.std.specs.Char.{to_ascii_lowercase}
use Rattle.std.proofs.lemmas.List.{take_at, drop_at, drop-replicate, replicate-append-replicate, length-append, length-take, length-map, map-append, take_more, drop_more, set_at}
use Rattle.dns_name.specs.Labels.{octets_of, IsLabel, IsName, lowered, labels_of, IsLaidOut}
use Rattle.dns_name.specs.Key.{padded, IsKey, key_octets, key_len}
use Rattle.dns_name.proofs.LabelLaws.{size_of-is, size_of-lowered, labels_of-octets_of, map-octets_of, laid_out, laid_short}

each-lowered : (labels : List (List ℕ)) → AllByRecursion IsLabel labels → AllByRecursion IsLabel (lowered labels)
each-lowered [] each = tt
each-lowered (l ∷ ls) each = (record { some = omega (arith, each.0.some, length-map l to_ascii_lowercase); short = omega (arith, each.0.short, length-map l to_ascii_lowercase) }, each-lowered ls each.1)

pub name-lowered : (labels : List (List ℕ)) → IsName labels → IsName (lowered labels)
name-lowered labels name = record { each = each-lowered labels name.each; short = omega (arith, name.short, size_of-lowered labels) }

lower_twice : (n : ℕ) → to_ascii_lowercase (to_ascii_lowercase n) ≡ to_ascii_lowercase n
lower_twice n = grind arith

pub lowered_twice : (xs : List ℕ) → map to_ascii_lowercase (map to_ascii_lowercase xs) ≡ map to_ascii_lowercase xs
lowered_twice [] = refl
lowered_twice (x ∷ xs) = rw (lower_twice x, lowered_twice xs) refl

-- a name's octets in lower case
pub lower_octets : (octets : List ℕ) → IsLaidOut octets → map to_ascii_lowercase octets ≡ octets_of (lowered (labels_of octets))
lower_octets octets laid = ap (map to_ascii_lowercase) (sym laid.whole) ∙ map-octets_of (labels_of octets) laid.name.each

front_is : (octets : List ℕ) → take (length octets + 1 - 1) (padded (map to_ascii_lowercase octets)) ≡ map to_ascii_lowercase octets
front_is octets = take_at (map to_ascii_lowercase octets) (replicate (255 - length (map to_ascii_lowercase octets)) 0) (length octets + 1 - 1) (omega (arith, length-map octets to_ascii_lowercase))

pub key_labels : (octets : List ℕ) → IsLaidOut octets → labels_of (take (length octets + 1 - 1) (padded (map to_ascii_lowercase octets))) ≡ lowered (labels_of octets)
key_labels octets laid = ap labels_of (front_is octets ∙ lower_octets octets laid) ∙ labels_of-octets_of (lowered (labels_of octets))

pub is_key : (octets : List ℕ) → IsLaidOut octets → IsKey (padded (map to_ascii_lowercase octets)) (length octets + 1)
is_key octets laid =
    let front = front_is octets in
    record {
      some = omega arith;
      short = omega (arith, laid_short octets laid);
      laid = subst IsLaidOut (sym (front ∙ lower_octets octets laid)) (laid_out (lowered (labels_of octets)) (name-lowered (labels_of octets) laid.name));
      lower = rw front (lowered_twice octets);
      zeros = rw front refl;
    }

-- ---- overwriting a key with another name's key

-- the octets past a key's length are zeros
zeros_behind : (octets : List ℕ) (len : ℕ) → IsKey octets len → length octets ≡ 255 → drop len octets ≡ replicate (255 - len) 0
zeros_behind octets len key size =
    let name : List ℕ = take (len - 1) octets in
    let long : length name ≡ len - 1 = omega (arith, length-take (len - 1) octets, key.some, key.short, size) in
    let one : 255 - length name ≡ suc (255 - len) = omega (arith, key.some, key.short, long) in
    let whole : octets ≡ (name ++ 0 ∷ []) ++ replicate (255 - len) 0 = sym key.zeros ∙ ap (λ (n : ℕ). name ++ replicate n 0) one ∙ sym (append_assoc name (0 ∷ []) (replicate (255 - len) 0)) in
    ap (drop len) whole ∙ drop_at (name ++ 0 ∷ []) (replicate (255 - len) 0) len (omega (arith, length-append name (0 ∷ []), long, key.some))

-- a name in lower case, over the first of 255 zeros
pub over_zeros : (octets : List ℕ) → map to_ascii_lowercase octets ++ drop (length octets) (replicate 255 0) ≡ padded (map to_ascii_lowercase octets)
over_zeros octets = ap (λ (xs : List ℕ). map to_ascii_lowercase octets ++ xs) (drop-replicate {X = ℕ} (length octets) 255 0 ∙ ap (λ (n : ℕ). replicate (255 - n) 0) (sym (length-map octets to_ascii_lowercase)))

-- a new name in lower case over a cleared key is followed by zeros
pub became : (octets : List ℕ) (len : ℕ) (name : List ℕ) → IsKey octets len → length octets ≡ 255
    → map to_ascii_lowercase name ++ drop (length name) (replicate len 0 ++ drop len octets) ≡ padded (map to_ascii_lowercase name)
became octets len name key size =
    let all : len + (255 - len) ≡ 255 = omega (arith, key.short) in
    let zeros : replicate len 0 ++ drop len octets ≡ replicate 255 0 = ap (λ (xs : List ℕ). replicate len 0 ++ xs) (zeros_behind octets len key size) ∙ replicate-append-replicate len (255 - len) 0 ∙ ap (λ (n : ℕ). replicate n 0) all in
    ap (λ (xs : List ℕ). map to_ascii_lowercase name ++ drop (length name) xs) zeros ∙ over_zeros name

-- another octet in lower case, over the next octet
pub lower_more : (octets before : List ℕ) (i : ℕ) → i < length octets → length octets ≤ length before
    → set (map to_ascii_lowercase (take i octets) ++ drop i before) i (to_ascii_lowercase (get_or octets i 0)) ≡ map to_ascii_lowercase (take (i + 1) octets) ++ drop (i + 1) before
lower_more octets before i lt le =
    let front : length (map to_ascii_lowercase (take i octets)) ≡ i = omega (arith, length-map (take i octets) to_ascii_lowercase, length-take i octets) in
    rw (drop_more before i 0 (omega (arith, lt, le)), take_more octets i 0 lt, map-append) (set_at (map to_ascii_lowercase (take i octets)) (get_or before i 0) (drop (i + 1) before) (to_ascii_lowercase (get_or octets i 0)) i front ∙ sym (append_assoc (map to_ascii_lowercase (take i octets)) (to_ascii_lowercase (get_or octets i 0) ∷ []) (drop (i + 1) before)))

-- octets of equal lengths are equal in lower case if equal with zeros after them
pub padded_same : (a b : List ℕ) → length a ≡ length b → padded (map to_ascii_lowercase a) ≡ padded (map to_ascii_lowercase b) → map to_ascii_lowercase a ≡ map to_ascii_lowercase b
padded_same a b size same =
    let long : length (map to_ascii_lowercase a) ≡ length (map to_ascii_lowercase b) = omega (arith, size, length-map a to_ascii_lowercase, length-map b to_ascii_lowercase) in
    let front : (c : List ℕ) → take (length c) (padded c) ≡ c = λ c. take_at c (replicate (255 - length c) 0) (length c) refl in
    sym (front (map to_ascii_lowercase a)) ∙ ap (take (length (map to_ascii_lowercase a))) same ∙ ap (λ (n : ℕ). take n (padded (map to_ascii_lowercase b))) long ∙ front (map to_ascii_lowercase b)

-- a key's labels are in lower case
pub key_lower : (octets : List ℕ) (len : ℕ) → IsKey octets len → lowered (labels_of (take (len - 1) octets)) ≡ labels_of (take (len - 1) octets)
key_lower octets len key =
    let name : List ℕ = take (len - 1) octets in
    sym (labels_of-octets_of (lowered (labels_of name))) ∙ ap labels_of (sym (lower_octets name key.laid) ∙ key.lower)

cons-tails : (x y : List ℕ) (xs ys : List (List ℕ)) → x ∷ xs ≡ y ∷ ys → xs ≡ ys
cons-tails x y xs ys e = cc

-- the labels after the first are in lower case, too
pub lowered_tail : (label : List ℕ) (labels : List (List ℕ)) → lowered (label ∷ labels) ≡ label ∷ labels → lowered labels ≡ labels
lowered_tail label labels e = cons-tails (map to_ascii_lowercase label) label (lowered labels) labels e

-- equal keys are keys of equal labels
pub key_same : (a b : List (List ℕ)) → key_octets a ≡ key_octets b → key_len a ≡ key_len b → a ≡ b
unfolding key_octets key_len
key_same a b octets len =
    let size : length (octets_of a) ≡ length (octets_of b) = omega (arith, size_of-is a, size_of-is b, len) in
    let front : (c : List (List ℕ)) → take (length (octets_of c)) (padded (octets_of c)) ≡ octets_of c = λ c. take_at (octets_of c) (replicate (255 - length (octets_of c)) 0) (length (octets_of c)) refl in
    let text : octets_of a ≡ octets_of b = sym (front a) ∙ ap (take (length (octets_of a))) octets ∙ ap (λ (n : ℕ). take n (padded (octets_of b))) size ∙ front b in
    sym (labels_of-octets_of a) ∙ ap labels_of text ∙ labels_of-octets_of b

and_both : (x y : Bool) → (x && y) ≡ true → (x ≡ true) × (y ≡ true)
and_both true y e = (refl, e)
and_both false y e = absurd cc

-- `==` decides equality of keys
pub key_decides : (a b : List (List ℕ)) → Decides (pointwise eqb (key_octets a) (key_octets b) && eqb (key_len a) (key_len b)) (a ≡ b)
key_decides a b =
    let octets = slice_eq-Decides Decides-eqb (key_octets a) (key_octets b) (pointwise eqb (key_octets a) (key_octets b)) refl in
    let len = Decides-eqb (key_len a) (key_len b) in (
      λ e. let both = and_both (pointwise eqb (key_octets a) (key_octets b)) (eqb (key_len a) (key_len b)) e in key_same a b (octets.0 both.0) (len.0 both.1),
      λ e. rw (octets.1 (ap key_octets e), len.1 (ap key_len e)) refl,
    )

-- ---- keys compared by the octets up to their length

-- the octets before the last counted octet
before_last : (octets : List ℕ) (len : ℕ) → 1 ≤ len → len ≤ length octets → take (len - 1) (take len octets) ≡ take (len - 1) octets
before_last octets len some short =
    let next : len ≡ len - 1 + 1 = omega (arith, some) in
    let whole : take len octets ≡ take (len - 1) octets ++ get_or octets (len - 1) 0 ∷ [] = ap (λ (n : ℕ). take n octets) next ∙ take_more octets (len - 1) 0 (omega (arith, some, short)) in
    ap (take (len - 1)) whole ∙ take_at (take (len - 1) octets) (get_or octets (len - 1) 0 ∷ []) (len - 1) (omega (arith, length-take (len - 1) octets, some, short))

-- keys with equal counted octets are equal: the rest are zeros
fronts_say_all : (a b : List ℕ) (m n : ℕ) → IsKey a m → IsKey b n → length a ≡ 255 → length b ≡ 255 → m ≡ n → take m a ≡ take m b → a ≡ b
fronts_say_all a b m n left right long longer same front =
    let names : take (m - 1) a ≡ take (n - 1) b =
    sym (before_last a m left.some (omega (arith, left.short, long))) ∙ ap (take (m - 1)) front ∙ ap (λ (k : ℕ). take (k - 1) (take k b)) same ∙ before_last b n right.some (omega (arith, right.short, longer)) in
    sym left.zeros ∙ ap padded names ∙ right.zeros

and_true : (x y : Bool) → x ≡ true → y ≡ true → (x && y) ≡ true
and_true true y e f = f
and_true false y e f = e

-- keys of equal lengths are equal if their counted octets are
pub same_length : (a b : List ℕ) (m n : ℕ) → IsKey a m → IsKey b n → length a ≡ 255 → length b ≡ 255 → m ≡ n → pointwise eqb (take m a) (take m b) ≡ (pointwise eqb a b && eqb m n)
same_length a b m n left right long longer same =
    let front = pointwise eqb (take m a) (take m b) in
    let octets = pointwise eqb a b in
    same_from_decides {P = a ≡ b} front (octets && eqb m n) (
      λ h. fronts_say_all a b m n left right long longer same ((bytes_decides (take m a) (take m b)).0 h),
      λ e. (bytes_decides (take m a) (take m b)).1 (ap (take m) e),
    ) (
      λ h. (bytes_decides a b).0 (and_both octets (eqb m n) h).0,
      λ e. and_true octets (eqb m n) ((bytes_decides a b).1 e) ((Decides-eqb m n).1 same),
    )

-- keys of different lengths differ
pub other_length : (x : Bool) (m n : ℕ) → (m ≡ n → ⊥) → eqb m n ≡ (x && eqb m n)
other_length x m n other =
    same_from_decides {P = ⊥} (eqb m n) (x && eqb m n)
    (λ h. other ((Decides-eqb m n).0 h), λ e. absurd e)
    (λ h. other ((Decides-eqb m n).0 (and_both x (eqb m n) h).1), λ e. absurd e)
