-- Written names are laid out, with the pointers in them.
use Rattle.std.proofs.Common.{◌≡◌, ℕ, ◌+◌, ◌/◌, ◌%◌, ◌<◌, ◌≤◌, Bool, true, false, cond, leb, List, [], ◌∷◌, ◌++◌, length, drop, get_or, Option, Some, None, refl, sym, ap, ◌∙◌, append_assoc, arith, ◌⊎◌, inl, inr}
use Rattle.std.specs.List.{AllByRecursion}
use Rattle.std.proofs.lemmas.List.{append-nil, length-append, get_or_at, get_or-append-add, take_at, drop_at}
use Rattle.std.proofs.lemmas.Slice.Eq.{slice_eq-Decides, bytes_eq-Decides}
use Rattle.std.proofs.lemmas.Bool.{leb-true}
use Rattle.dns_name.specs.Labels.{label_octets, IsLabel}
use Rattle.dns_message.specs.Names.{target, NameAt, at_root, at_label, at_pointer}
use Rattle.dns_message.specs.Writing.{Place, Text, Writing, as_is, after, ◌▹◌, octets16, labels_eq, place_of, pointer_to, pointer_or, places_at, label_text, name_text}
use Rattle.dns_message.proofs.writing.WriterLaws.{after_both}

-- ---- the whole octets begin with a text

pub record Begins (all front : List ℕ) : Type 0 where
  pub more : List ℕ
  pub whole : all ≡ front ++ more

pub begins_back : (all : List ℕ) (t : Text) (w : Writing) → Begins all (after t w).octets → Begins all t.octets
unfolding after
begins_back all t w b =
    let text : List ℕ = (w t.places (length t.octets)).octets in
    record { more = text ++ b.more; whole = b.whole ∙ append_assoc t.octets text b.more }

pub begins_long : (all front : List ℕ) → Begins all front → length front ≤ length all
begins_long all front b = omega (arith, ap length b.whole, length-append front b.more)

-- these octets follow the text
pub record Behind (all : List ℕ) (o : ℕ) (xs : List ℕ) : Type 0 where
  pub more : List ℕ
  pub rest : drop o all ≡ xs ++ more
  pub inside : o + length xs ≤ length all

pub behind_as_is : (all : List ℕ) (t : Text) (xs : List ℕ) → Begins all (after t (as_is xs)).octets → Behind all (length t.octets) xs
unfolding after
behind_as_is all t xs b = record {
  more = b.more;
  rest = ap (drop (length t.octets)) (b.whole ∙ append_assoc t.octets xs b.more) ∙ drop_at t.octets (xs ++ b.more) (length t.octets) refl;
  inside = omega (arith, ap length b.whole, length-append (t.octets ++ xs) b.more, length-append t.octets xs);
}

pub octet_at : (all : List ℕ) (t : Text) (x : ℕ) (xs : List ℕ) → Begins all (after t (as_is (x ∷ xs))).octets → get_or all (length t.octets) 0 ≡ x
unfolding after
octet_at all t x xs b = rw (b.whole ∙ append_assoc t.octets (x ∷ xs) b.more) (get_or_at t.octets x (xs ++ b.more) 0 (length t.octets) refl)

pub next_octet_at : (all : List ℕ) (t : Text) (x y : ℕ) (xs : List ℕ) → Begins all (after t (as_is (x ∷ y ∷ xs))).octets → get_or all (length t.octets + 1) 0 ≡ y
unfolding after
next_octet_at all t x y xs b = rw (b.whole ∙ append_assoc t.octets (x ∷ y ∷ xs) b.more) (get_or-append-add t.octets (x ∷ y ∷ (xs ++ b.more)) 1 0)

pub after_length : (t : Text) (xs : List ℕ) → length (after t (as_is xs)).octets ≡ length t.octets + length xs
unfolding after
after_length t xs = length-append t.octets xs

-- ---- the places of a text

-- the place's name is laid out in the octets so far
pub record Stands (all : List ℕ) (end : ℕ) (place : Place) : Type 0 where
  pub far : ℕ
  pub at : NameAt all place.offset place.offset place.name far
  pub before : place.offset < end
  pub near : place.offset ≤ 16383

abbrev pub PlacesStand : List ℕ → Text → Type 0
PlacesStand all t = AllByRecursion (Stands all (length t.octets)) t.places

pub stands_on : (all : List ℕ) (d e : ℕ) (ps : List Place) → d ≤ e → AllByRecursion (Stands all d) ps → AllByRecursion (Stands all e) ps
stands_on all d e [] le stand = tt
stands_on all d e (p ∷ ps) le stand = (record { far = stand.0.far; at = stand.0.at; before = omega (arith, stand.0.before); near = stand.0.near }, stands_on all d e ps le stand.1)

all_append : (P : Place → Type 0) (ps qs : List Place) → AllByRecursion P ps → AllByRecursion P qs → AllByRecursion P (ps ++ qs)
all_append P [] qs a b = b
all_append P (p ∷ ps) qs a b = (a.0, all_append P ps qs a.1 b)

-- a place before the run, or of a longer name, such as a name ending with n
abbrev Known : List ℕ → ℕ → List (List ℕ) → Place → Type 0
Known all f n place = Stands all f place ⊎ (length n < length place.name)

known_all : (all : List ℕ) (f : ℕ) (n : List (List ℕ)) (ps : List Place) → AllByRecursion (Stands all f) ps → AllByRecursion (Known all f n) ps
known_all all f n [] stand = tt
known_all all f n (p ∷ ps) stand = (inl stand.0, known_all all f n ps stand.1)

-- the next label begins
known_next : (all : List ℕ) (d e : ℕ) (l : List ℕ) (ls : List (List ℕ)) (ps : List Place) → d ≤ e → AllByRecursion (Known all d (l ∷ ls)) ps → AllByRecursion (Known all e ls) ps
known_next all d e l ls [] le known = tt
known_next all d e l ls (p ∷ ps) le known = (first known.0, known_next all d e l ls ps le known.1)
  where
    first : Known all d (l ∷ ls) p → Known all e ls p
    first (inl stand) = inl (record { far = stand.far; at = stand.at; before = omega (arith, stand.before); near = stand.near })
    first (inr longer) = inr (omega arith)

known_here : (all : List ℕ) (f o : ℕ) (l : List ℕ) (ls : List (List ℕ)) → AllByRecursion (Known all f ls) (places_at o (l ∷ ls))
known_here all f o l ls = here_by (leb o 16383)
  where
    here_by : (b : Bool) → AllByRecursion (Known all f ls) (cond b (record { offset = o; name = l ∷ ls } ∷ []) [])
    here_by true = (inr (omega arith), tt)
    here_by false = tt

found : (all : List ℕ) (f p : ℕ) (n : List (List ℕ)) (ps : List Place) → AllByRecursion (Known all f n) ps → place_of ps n ≡ Some p → Stands all f (record { offset = p; name = n })
found all f p n [] known is = absurd cc
found all f p n (q ∷ ps) known is = found_by (labels_eq q.name n) (slice_eq-Decides bytes_eq-Decides q.name n (labels_eq q.name n) refl).0 (λ is'. found all f p n ps known.1 is') known.0 is
  where
    found_by : (b : Bool) → (b ≡ true → q.name ≡ n) → (place_of ps n ≡ Some p → Stands all f (record { offset = p; name = n })) → Known all f n q → cond b (Some q.offset) (place_of ps n) ≡ Some p
        → Stands all f (record { offset = p; name = n })
    found_by true same more (inl stand) is =
        let here : q.offset ≡ p = cc in
        record { far = stand.far; at = rw (← here, ← same refl) stand.at; before = omega (arith, stand.before, here); near = omega (arith, stand.near, here) }
    found_by true same more (inr longer) is = absurd (omega (arith, ap length (same refl)))
    found_by false same more first is = more is

-- ---- a name

-- a pointer as a name
pointer_stands : (all : List ℕ) (t : Text) (f p : ℕ) (n : List (List ℕ)) → Stands all f (record { offset = p; name = n }) → Begins all (after t (as_is (octets16 (pointer_to p)))).octets
    → NameAt all (length t.octets) f n (length (after t (as_is (octets16 (pointer_to p)))).octets)
pointer_stands all t f p n stand b =
    let o : ℕ = length t.octets in
    let number : ℕ = pointer_to p in
    let first : get_or all o 0 ≡ number / 256 % 256 = octet_at all t (number / 256 % 256) (number % 256 ∷ []) b in
    let second : get_or all (o + 1) 0 ≡ number % 256 = next_octet_at all t (number / 256 % 256) (number % 256) [] b in
    let near : p ≤ 16383 = stand.near in
    let high : number / 256 % 256 ≡ 192 + p / 256 = omega (arith, near) in
    let there : target all o ≡ p = rw (first, second, high) (omega (arith, near)) in
    let inside = (behind_as_is all t (octets16 number) b).inside in
    let on : NameAt all p p n stand.far = stand.at in
    at_pointer {e' = stand.far} (omega (arith, first, high)) (omega (arith, inside)) (omega (arith, there, stand.before)) (rw there on) (after_length t (octets16 number))

-- a label, and the labels after it
pub label_stands : (all : List ℕ) (t : Text) (f e : ℕ) (l : List ℕ) (ls : List (List ℕ)) → IsLabel l → Begins all (after t (label_text l ls)).octets
    → NameAt all (length (after t (label_text l ls)).octets) f ls e → NameAt all (length t.octets) f (l ∷ ls) e
unfolding after
label_stands all t f e l ls is_label b rest =
    let o : ℕ = length t.octets in
    let shape : all ≡ t.octets ++ (length l ∷ (l ++ b.more)) = b.whole ∙ append_assoc t.octets (label_octets l) b.more in
    let first : get_or all o 0 ≡ length l = rw shape (get_or_at t.octets (length l) (l ++ b.more) 0 o refl) in
    let behind : drop (o + 1) all ≡ l ++ b.more =
    ap (drop (o + 1)) (shape ∙ sym (append_assoc t.octets (length l ∷ []) (l ++ b.more))) ∙ drop_at (t.octets ++ length l ∷ []) (l ++ b.more) (o + 1) (length-append t.octets (length l ∷ [])) in
    let place : length (t.octets ++ label_octets l) ≡ o + 1 + length l = omega (arith, length-append t.octets (label_octets l)) in
    let size : length all ≡ o + 1 + length l + length b.more = omega (arith, ap length shape, length-append t.octets (length l ∷ (l ++ b.more)), length-append l b.more) in
    let on : NameAt all (o + 1 + length l) f ls e = rw (← place) rest in
    at_label (omega (arith, first, is_label.some)) (omega (arith, first, is_label.short)) (omega (arith, first, size)) (rw (first, behind) (sym (take_at l b.more (length l) refl))) (rw first on)

-- the name is laid out at the place of writing
abbrev NameStands : List ℕ → Text → ℕ → List (List ℕ) → Text → Type 0
NameStands all t f n new = NameAt all (length t.octets) f n (length new.octets)

name_by : (all : List ℕ) (t : Text) (f : ℕ) (l : List ℕ) (ls : List (List ℕ)) → IsLabel l → AllByRecursion (Known all f (l ∷ ls)) t.places
    → (Begins all (after (after t (label_text l ls)) (name_text ls)).octets → NameAt all (length (after t (label_text l ls)).octets) f ls (length (after (after t (label_text l ls)) (name_text ls)).octets))
    → (r : Option ℕ) → place_of t.places (l ∷ ls) ≡ r
    → Begins all (after t (pointer_or r (label_text l ls ▹ name_text ls))).octets → NameStands all t f (l ∷ ls) (after t (pointer_or r (label_text l ls ▹ name_text ls)))
name_by all t f l ls is_label known rest (Some p) is b = pointer_stands all t f p (l ∷ ls) (found all f p (l ∷ ls) t.places known is) b
name_by all t f l ls is_label known rest None is b =
    let b' : Begins all (after (after t (label_text l ls)) (name_text ls)).octets = rw after_both at b in
    rw (after_both t (label_text l ls) (name_text ls)) (label_stands all t f _ l ls is_label (begins_back all (after t (label_text l ls)) (name_text ls) b') (rest b'))

label_known : (all : List ℕ) (t : Text) (f : ℕ) (l : List ℕ) (ls : List (List ℕ)) → AllByRecursion (Known all f (l ∷ ls)) t.places → AllByRecursion (Known all f ls) (after t (label_text l ls)).places
unfolding after
label_known all t f l ls known = all_append (Known all f ls) t.places (places_at (length t.octets) (l ∷ ls)) (known_next all f f l ls t.places (omega arith) known) (known_here all f (length t.octets) l ls)

name_known : (t : Text) (l : List ℕ) (ls : List (List ℕ)) → after t (name_text (l ∷ ls)) ≡ after t (pointer_or (place_of t.places (l ∷ ls)) (label_text l ls ▹ name_text ls))
unfolding after name_text
name_known t l ls = refl

name_root : (t : Text) → after t (name_text []) ≡ after t (as_is (0 ∷ []))
unfolding after name_text
name_root t = refl

-- a written name is laid out at the place of writing
pub name_stands : (all : List ℕ) (n : List (List ℕ)) (t : Text) (f : ℕ) → AllByRecursion IsLabel n → AllByRecursion (Known all f n) t.places → Begins all (after t (name_text n)).octets → NameStands all t f n (after t (name_text n))
name_stands all [] t f each known b =
    let b' : Begins all (after t (as_is (0 ∷ []))).octets = rw (name_root t) at b in
    let inside = (behind_as_is all t (0 ∷ []) b').inside in
    rw (name_root t) (at_root {o = length t.octets} (omega (arith, inside)) (octet_at all t 0 [] b') (after_length t (0 ∷ [])))
name_stands all (l ∷ ls) t f each known b =
    let b' : Begins all (after t (pointer_or (place_of t.places (l ∷ ls)) (label_text l ls ▹ name_text ls))).octets = rw (name_known t l ls) at b in
    rw (name_known t l ls)
    (name_by all t f l ls each.0 known (λ b''. name_stands all ls (after t (label_text l ls)) f each.1 (label_known all t f l ls known) b'') (place_of t.places (l ∷ ls)) refl b')

-- ---- written places stay

pub stands_known : (all : List ℕ) (t : Text) (n : List (List ℕ)) → PlacesStand all t → AllByRecursion (Known all (length t.octets) n) t.places
stands_known all t n stand = known_all all (length t.octets) n t.places stand

new_place : (all : List ℕ) (t : Text) (end : ℕ) (name : List (List ℕ)) (far : ℕ) → length t.octets < end → NameAt all (length t.octets) (length t.octets) name far → AllByRecursion (Stands all end) (places_at (length t.octets) name)
new_place all t end name far before at = new_by (leb (length t.octets) 16383) (λ e. leb-true (length t.octets) 16383 e)
  where
    new_by : (b : Bool) → (b ≡ true → length t.octets ≤ 16383) → AllByRecursion (Stands all end) (cond b (record { offset = length t.octets; name = name } ∷ []) [])
    new_by true near = (record { far = far; at = at; before = before; near = near refl }, tt)
    new_by false near = tt

pub after_more : (t : Text) (w : Writing) → length t.octets ≤ length (after t w).octets
unfolding after
after_more t w = omega (arith, length-append t.octets (w t.places (length t.octets)).octets)

label_longer : (t : Text) (l : List ℕ) (ls : List (List ℕ)) → length t.octets < length (after t (label_text l ls)).octets
unfolding after
label_longer t l ls = omega (arith, length-append t.octets (label_octets l))

label_places : (t : Text) (l : List ℕ) (ls : List (List ℕ)) → (after t (label_text l ls)).places ≡ t.places ++ places_at (length t.octets) (l ∷ ls)
unfolding after
label_places t l ls = refl

as_is_places : (t : Text) (xs : List ℕ) → (after t (as_is xs)).places ≡ t.places
unfolding after
as_is_places t xs = append-nil t.places

-- all places, also the places before the name, if no place of a longer name is in doubt
abbrev NewStand : List ℕ → List Place → ℕ → List Place → Type 0
NewStand all old end now = (ps : List Place) × (now ≡ old ++ ps) × AllByRecursion (Stands all end) ps

places_by : (all : List ℕ) (t : Text) (l : List ℕ) (ls : List (List ℕ)) → AllByRecursion (Known all (length t.octets) (l ∷ ls)) t.places → AllByRecursion IsLabel (l ∷ ls) → Begins all (after t (name_text (l ∷ ls))).octets
    → (Begins all (after (after t (label_text l ls)) (name_text ls)).octets → NewStand all (after t (label_text l ls)).places (length (after (after t (label_text l ls)) (name_text ls)).octets) (after (after t (label_text l ls)) (name_text ls)).places)
    → (r : Option ℕ) → place_of t.places (l ∷ ls) ≡ r
    → NewStand all t.places (length (after t (pointer_or r (label_text l ls ▹ name_text ls))).octets) (after t (pointer_or r (label_text l ls ▹ name_text ls))).places
places_by all t l ls known each b rest (Some p) is = ([], as_is_places t (octets16 (pointer_to p)) ∙ sym (append-nil t.places), tt)
places_by all t l ls known each b rest None is =
    let new : Text = after (after t (label_text l ls)) (name_text ls) in
    let same : after t (name_text (l ∷ ls)) ≡ new = name_known t l ls ∙ rw is (after_both t (label_text l ls) (name_text ls)) in
    let at = name_stands all (l ∷ ls) t (length t.octets) each known b in
    let b' : Begins all new.octets = rw same at b in
    let longer : length t.octets < length new.octets = omega (arith, label_longer t l ls, after_more (after t (label_text l ls)) (name_text ls)) in
    let first = new_place all t (length new.octets) (l ∷ ls) _ longer at in
    rw (after_both t (label_text l ls) (name_text ls)) (places_with (rest b') first)
  where
    places_with : NewStand all (after t (label_text l ls)).places (length (after (after t (label_text l ls)) (name_text ls)).octets) (after (after t (label_text l ls)) (name_text ls)).places
        → AllByRecursion (Stands all (length (after (after t (label_text l ls)) (name_text ls)).octets)) (places_at (length t.octets) (l ∷ ls))
        → NewStand all t.places (length (after (after t (label_text l ls)) (name_text ls)).octets) (after (after t (label_text l ls)) (name_text ls)).places
    places_with (ps, is', stand) first = (
      places_at (length t.octets) (l ∷ ls) ++ ps,
      is' ∙ ap (λ (x : List Place). x ++ ps) (label_places t l ls) ∙ append_assoc t.places (places_at (length t.octets) (l ∷ ls)) ps,
      all_append (Stands all (length (after (after t (label_text l ls)) (name_text ls)).octets)) (places_at (length t.octets) (l ∷ ls)) ps first stand,
    )

new_stand : (all : List ℕ) (n : List (List ℕ)) (t : Text) → AllByRecursion (Known all (length t.octets) n) t.places → AllByRecursion IsLabel n → Begins all (after t (name_text n)).octets
    → NewStand all t.places (length (after t (name_text n)).octets) (after t (name_text n)).places
new_stand all [] t known each b = rw (name_root t) ([], as_is_places t (0 ∷ []) ∙ sym (append-nil t.places), tt)
new_stand all (l ∷ ls) t known each b =
    let o : ℕ = length (after t (label_text l ls)).octets in
    let known' : AllByRecursion (Known all o ls) (after t (label_text l ls)).places =
    rw (label_places t l ls) (all_append (Known all o ls) t.places (places_at (length t.octets) (l ∷ ls)) (known_next all (length t.octets) o l ls t.places (omega (arith, label_longer t l ls)) known) (known_here all o (length t.octets) l ls)) in
    rw (name_known t l ls) (places_by all t l ls known each b (λ b'. new_stand all ls (after t (label_text l ls)) known' each.1 b') (place_of t.places (l ∷ ls)) refl)

pub name_places : (all : List ℕ) (n : List (List ℕ)) (t : Text) → PlacesStand all t → AllByRecursion IsLabel n → Begins all (after t (name_text n)).octets → PlacesStand all (after t (name_text n))
name_places all n t stand each b = with_new (new_stand all n t (stands_known all t n stand) each b)
  where
    with_new : NewStand all t.places (length (after t (name_text n)).octets) (after t (name_text n)).places → PlacesStand all (after t (name_text n))
    with_new (ps, is, new) =
        rw is (all_append (Stands all (length (after t (name_text n)).octets)) t.places ps (stands_on all (length t.octets) (length (after t (name_text n)).octets) t.places (after_more t (name_text n)) stand) new)

pub as_is_stands : (all : List ℕ) (t : Text) (xs : List ℕ) → PlacesStand all t → PlacesStand all (after t (as_is xs))
as_is_stands all t xs stand = rw (as_is_places t xs) (stands_on all (length t.octets) (length (after t (as_is xs)).octets) t.places (after_more t (as_is xs)) stand)
