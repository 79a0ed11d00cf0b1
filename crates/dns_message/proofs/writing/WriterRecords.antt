-- Questions and records, written one after another within a limit.
use Rattle.std.proofs.Common.{◌≡◌, ℕ, ◌+◌, ◌-◌, ◌<◌, ◌≤◌, List, [], ◌∷◌, ◌++◌, length, take, drop, get_or, refl, sym, ap, subst, ◌∙◌, append_assoc, arith}
use Rattle.std.proofs.lemmas.List.{append-nil, length-append, length-take, length-drop, take_at, drop_at, drop_more, drop_all, take_all, take_more}
use Rattle.dns_message.specs.declared.names.fault.Fault.{Fault}
use Rattle.dns_message.specs.declared.names.fault.Fault.TheVariants.{Short, LabelForm, Pointer, NameLong, Rdata, TooLarge, Memory, NoQuestion}
use Rattle.dns_message.specs.declared.writing.writer.Writer.{Writer}
use Rattle.dns_message.specs.Writing.{Text, Writing, as_is, after, ◌▹◌, each, octets16, octets32, with_length, name_text, question_text, head_text}
use Rattle.std.specs.List.{AllByRecursion}
use Rattle.dns_name.specs.Labels.{IsName}
use Rattle.dns_message.specs.Written.{IsQuestion}
use Rattle.dns_message.specs.Values.{Question, Record}
use Rattle.dns_message.specs.Borrowed.{record_of}
use Rattle.dns_message.specs.Writer.{Holds, Writes, HoldsText, Refused}
use Rattle.dns_message.proofs.writing.WriterLaws.{GoesOn, after_both, in_turn, along, both, goes_on, all_done}

pub after_long : (t : Text) (w : Writing) → length t.octets ≤ length (after t w).octets
unfolding after
after_long t w = omega (arith, length-append t.octets (w t.places (length t.octets)).octets)

-- ---- a limit passed on the way is passed at the end

pub refused_on : {A : Type 0} (limit : ℕ) (fault : Fault) (start mid : Writer A) (a left whole : Writing) → GoesOn start mid (a ▹ left) whole → Refused limit fault mid a → Refused limit fault start whole
refused_on limit Memory start mid a left whole so_far refused = tt
refused_on limit TooLarge start mid a left whole so_far refused = λ t h.
    let r = so_far t h in
    let long = after_long (after r.text a) left in
    rw (← r.rest, after_both) (omega (arith, refused r.text r.holds, long))
refused_on limit Short start mid a left whole so_far refused = absurd refused
refused_on limit LabelForm start mid a left whole so_far refused = absurd refused
refused_on limit Pointer start mid a left whole so_far refused = absurd refused
refused_on limit NameLong start mid a left whole so_far refused = absurd refused
refused_on limit Rdata start mid a left whole so_far refused = absurd refused
refused_on limit NoQuestion start mid a left whole so_far refused = absurd refused

pub too_large : {A : Type 0} (limit : ℕ) (fault : Fault) (old new : Writer A) (a : Writing) → Writes old new a → fault ≡ TooLarge → limit < length new.octets.items → Refused limit fault old a
too_large limit fault old new a step is passed =
    rw is (λ t h. omega (arith, passed, ap length (step t h).octets))

-- ---- a list, an element after another

pub each_at : {X : Type 0} (w : X → Writing) (xs : List X) (i : ℕ) (x : X) → i < length xs → x ≡ get_or xs i x → each w (drop i xs) ≡ (w x ▹ each w (drop (i + 1) xs))
unfolding each
each_at w xs i x lt is = rw (drop_more xs i x lt, ← is) refl

pub each_end : {X : Type 0} (w : X → Writing) (xs : List X) (i : ℕ) → length xs ≤ i → each w (drop i xs) ≡ as_is []
unfolding each
each_end w xs i le = rw (drop_all i xs le) refl

pub holds_on : {A : Type 0} (start mid : Writer A) (left whole : Writing) → GoesOn start mid left whole → HoldsText start → HoldsText mid
holds_on start mid left whole so_far (t, h) = let r = so_far t h in (r.text, r.holds)

pub holds_after : {A : Type 0} (old new : Writer A) (a : Writing) → Writes old new a → HoldsText old → HoldsText new
holds_after old new a step (t, h) = (after t a, step t h)

-- ---- data after the length

-- the text with the data written after two zero octets
pub record Zeroed (t : Text) (w : Writing) : Type 0 where
  pub octets : (after (after t (as_is (0 ∷ 0 ∷ []))) w).octets ≡ (t.octets ++ 0 ∷ 0 ∷ []) ++ (w t.places (length t.octets + 2)).octets
  pub places : (after (after t (as_is (0 ∷ 0 ∷ []))) w).places ≡ t.places ++ (w t.places (length t.octets + 2)).places

pub zeroed : (t : Text) (w : Writing) → Zeroed t w
unfolding after
zeroed t w = record {
  octets = rw (append-nil t.places, length-append t.octets (0 ∷ 0 ∷ [])) refl;
  places = rw (append-nil t.places, length-append t.octets (0 ∷ 0 ∷ [])) refl;
}

-- the length is of the octets after the two octets
pub length_behind : (t : Text) (w : Writing) → length (after (after t (as_is (0 ∷ 0 ∷ []))) w).octets ≡ length t.octets + 2 + length (w t.places (length t.octets + 2)).octets
length_behind t w =
    let z = zeroed t w in
    omega (arith, ap length z.octets, length-append (t.octets ++ 0 ∷ 0 ∷ []) (w t.places (length t.octets + 2)).octets, length-append t.octets (0 ∷ 0 ∷ []))

pub length_set : (t : Text) (w : Writing) (full xs : List ℕ) (start len : ℕ) → start ≡ length t.octets → len ≡ length (w t.places (length t.octets + 2)).octets
    → full ≡ (after (after t (as_is (0 ∷ 0 ∷ []))) w).octets → xs ≡ (take start full ++ octets16 len) ++ drop (start + 2) full → xs ≡ (after t (with_length w)).octets
unfolding after with_length
length_set t w full xs start len start_is len_is full_is set =
    let text : List ℕ = (w t.places (length t.octets + 2)).octets in
    let whole : full ≡ t.octets ++ (0 ∷ 0 ∷ text) = full_is ∙ (zeroed t w).octets ∙ append_assoc t.octets (0 ∷ 0 ∷ []) text in
    let front : take start full ≡ t.octets = ap (take start) whole ∙ take_at t.octets (0 ∷ 0 ∷ text) start (sym start_is) in
    let behind : drop (start + 2) full ≡ text = ap (drop (start + 2)) (full_is ∙ (zeroed t w).octets) ∙ drop_at (t.octets ++ 0 ∷ 0 ∷ []) text (start + 2) (omega (arith, length-append t.octets (0 ∷ 0 ∷ []), start_is)) in
    set ∙ rw (front, behind, len_is) (append_assoc t.octets (octets16 (length text)) text)

-- octets without a name, after their length
plain_after : (t : Text) (xs : List ℕ) → after t (with_length (as_is xs)) ≡ after t (as_is (octets16 (length xs)) ▹ as_is xs)
unfolding after with_length ◌▹◌
plain_after t xs = refl

pub plain_written : {A : Type 0} (old mid new : Writer A) (xs : List ℕ) → Writes old mid (as_is (octets16 (length xs))) → Writes mid new (as_is xs) → Writes old new (with_length (as_is xs))
plain_written old mid new xs len step t h = rw (plain_after t xs) (both old mid new (as_is (octets16 (length xs))) (as_is xs) len step t h)

plain_size : (t : Text) (xs : List ℕ) → length (after t (with_length (as_is xs))).octets ≡ length t.octets + 2 + length xs
unfolding after with_length
plain_size t xs = omega (arith, length-append t.octets (octets16 (length xs) ++ xs), length-append (octets16 (length xs)) xs)

pub plain_refused : {A : Type 0} (limit : ℕ) (t : Text) (xs : List ℕ) (w : Writer A) → Holds w t → limit < length w.octets.items + 2 + length xs → limit < length (after t (with_length (as_is xs))).octets
plain_refused limit t xs w h passed = omega (arith, passed, plain_size t xs, ap length h.octets)

pub plain_long : {A : Type 0} (old new : Writer A) (xs : List ℕ) → HoldsText old → Writes old new (with_length (as_is xs)) → length new.octets.items ≡ length old.octets.items + 2 + length xs
plain_long old new xs (t, h) step = omega (arith, ap length (step t h).octets, plain_size t xs, ap length h.octets)

-- ---- from the values in fields to plain values

pub writes_as : {A : Type 0} (old new : Writer A) (a b : Writing) → a ≡ b → Writes old new a → Writes old new b
writes_as old new a b same step t h = let P : Writing → Type 0 = λ w. Holds new (after t w) in subst P same (step t h)

-- a question, with type and class at once
pub question_written : {A : Type 0} (old mid new : Writer A) (q : Question) (labels : List (List ℕ)) (kind class : ℕ) (xs : List ℕ) → labels ≡ q.name → kind ≡ q.kind → class ≡ q.class → xs ≡ octets16 kind ++ octets16 class
    → Writes old mid (name_text labels) → Writes mid new (as_is xs) → Writes old new (question_text q)
question_written old mid new q labels kind class xs named is_kind is_class is name step =
    in_turn old new (name_text q.name) (octets16 q.kind) (octets16 q.class)
    (both old mid new (name_text q.name) (as_is (octets16 q.kind ++ octets16 q.class)) (writes_as old mid (name_text labels) (name_text q.name) (ap name_text named) name)
    (writes_as mid new (as_is xs) (as_is (octets16 q.kind ++ octets16 q.class)) (ap as_is (is ∙ rw (is_kind, is_class) refl)) step))

-- a record's head before the data, with the numbers at once
pub head_written : {A : Type 0} (old new : Writer A) (r : Record) (xs : List ℕ) → xs ≡ octets16 r.kind ++ (octets16 r.class ++ octets32 r.ttl) → Writes old new (name_text r.owner ▹ as_is xs) → Writes old new (head_text r)
head_written old new r xs is step =
    in_turn old new (name_text r.owner ▹ as_is (octets16 r.kind)) (octets16 r.class) (octets32 r.ttl)
    (in_turn old new (name_text r.owner) (octets16 r.kind) (octets16 r.class ++ octets32 r.ttl) (writes_as old new (name_text r.owner ▹ as_is xs) (name_text r.owner ▹ as_is (octets16 r.kind ++ (octets16 r.class ++ octets32 r.ttl))) (rw is refl) step))

pub question_is : (q : Question) (labels : List (List ℕ)) (kind class : ℕ) → labels ≡ q.name → kind ≡ q.kind → class ≡ q.class → IsName labels → kind < 65536 → class < 65536 → IsQuestion q
question_is q labels kind class named is_kind is_class name k c = record { name = subst IsName named name; kind = omega (arith, is_kind, k); class = omega (arith, is_class, c) }

-- a record, from the values of its fields
pub record_as : (r : Record) (labels owner : List (List ℕ)) (kind class ttl : ℕ) (octets rdata : List ℕ) → record { owner = owner; kind = kind; class = class; ttl = ttl; rdata = rdata } ≡ r → labels ≡ owner → octets ≡ rdata
    → record_of labels kind class ttl octets ≡ r
record_as r labels owner kind class ttl octets rdata is named same = rw (named, same) is

-- ---- the loops over a list

-- the rest of the list begins with the element at i
pub left_from : {A X : Type 0} (start mid : Writer A) (w : X → Writing) (xs : List X) (i : ℕ) (x : X) → i < length xs → x ≡ get_or xs i x
    → GoesOn start mid (each w (drop i xs)) (each w xs) → GoesOn start mid (w x ▹ each w (drop (i + 1) xs)) (each w xs)
left_from start mid w xs i x lt is so_far = along start mid (each w (drop i xs)) (w x ▹ each w (drop (i + 1) xs)) (each w xs) (each_at w xs i x lt is) so_far

pub element_refused : {A X : Type 0} (limit : ℕ) (fault : Fault) (start mid : Writer A) (w : X → Writing) (xs : List X) (i : ℕ) (x : X) → i < length xs → x ≡ get_or xs i x
    → GoesOn start mid (each w (drop i xs)) (each w xs) → Refused limit fault mid (w x) → Refused limit fault start (each w xs)
element_refused limit fault start mid w xs i x lt is so_far refused =
    refused_on limit fault start mid (w x) (each w (drop (i + 1) xs)) (each w xs) (left_from start mid w xs i x lt is so_far) refused

pub element_written : {A X : Type 0} (start mid now : Writer A) (w : X → Writing) (xs : List X) (i : ℕ) (x : X) → i < length xs → x ≡ get_or xs i x
    → GoesOn start mid (each w (drop i xs)) (each w xs) → Writes mid now (w x) → GoesOn start now (each w (drop (i + 1) xs)) (each w xs)
element_written start mid now w xs i x lt is so_far step =
    goes_on start mid now (w x) (each w (drop (i + 1) xs)) (each w xs) (left_from start mid w xs i x lt is so_far) step

pub list_written : {A X : Type 0} (start mid : Writer A) (w : X → Writing) (xs : List X) (i : ℕ) → length xs ≤ i → GoesOn start mid (each w (drop i xs)) (each w xs) → Writes start mid (each w xs)
list_written start mid w xs i le so_far = all_done start mid (each w (drop i xs)) (each w xs) (each_end w xs i le) so_far

-- ---- the octets so far pass no limit, with more octets they do

pub refused_behind : {A : Type 0} (limit : ℕ) (fault : Fault) (old mid : Writer A) (a b : Writing) → Writes old mid a → Refused limit fault mid b → Refused limit fault old (a ▹ b)
refused_behind limit Memory old mid a b step refused = tt
refused_behind limit TooLarge old mid a b step refused = λ t h. rw after_both (refused (after t a) (step t h))
refused_behind limit Short old mid a b step refused = absurd refused
refused_behind limit LabelForm old mid a b step refused = absurd refused
refused_behind limit Pointer old mid a b step refused = absurd refused
refused_behind limit NameLong old mid a b step refused = absurd refused
refused_behind limit Rdata old mid a b step refused = absurd refused
refused_behind limit NoQuestion old mid a b step refused = absurd refused

-- ---- data after the length, in a writer

-- the length of the written octets
pub so_long : {A : Type 0} (old mid full : Writer A) (w : Writing) → HoldsText old → Writes old mid (as_is (0 ∷ 0 ∷ [])) → Writes mid full w → length old.octets.items + 2 ≤ length full.octets.items
so_long old mid full w (t, h) zeros step =
    omega (arith, ap length h.octets, ap length (step (after t (as_is (0 ∷ 0 ∷ []))) (zeros t h)).octets, length_behind t w)

pub with_length_refused : {A : Type 0} (limit : ℕ) (fault : Fault) (old mid full : Writer A) (w : Writing) → Writes old mid (as_is (0 ∷ 0 ∷ [])) → Writes mid full w → fault ≡ TooLarge → limit < length full.octets.items
    → Refused limit fault old (with_length w)
unfolding after with_length
with_length_refused limit fault old mid full w zeros step is passed =
    rw is (λ t h.
    omega (
      arith,
      passed,
      ap length (step (after t (as_is (0 ∷ 0 ∷ []))) (zeros t h)).octets,
      length_behind t w,
      length-append t.octets (with_length w t.places (length t.octets)).octets,
      length-append (octets16 (length (w t.places (length t.octets + 2)).octets)) (w t.places (length t.octets + 2)).octets,
    ))

places_kept : (t : Text) (w : Writing) → (after t (with_length w)).places ≡ (after (after t (as_is (0 ∷ 0 ∷ []))) w).places
unfolding after with_length
places_kept t w = sym (zeroed t w).places

pub with_length_written : {A : Type 0} (old mid full new : Writer A) (w : Writing) (start len : ℕ) → start ≡ length old.octets.items → len ≡ length full.octets.items - start - 2
    → Writes old mid (as_is (0 ∷ 0 ∷ [])) → Writes mid full w → new.octets.items ≡ (take start full.octets.items ++ octets16 len) ++ drop (start + 2) full.octets.items → new.pointers ≡ full.pointers
    → Writes old new (with_length w)
with_length_written old mid full new w start len start_is len_is zeros step set same t h =
    let held = step (after t (as_is (0 ∷ 0 ∷ []))) (zeros t h) in
    let begins_ : start ≡ length t.octets = omega (arith, start_is, ap length h.octets) in
    let long : len ≡ length (w t.places (length t.octets + 2)).octets = omega (arith, len_is, ap length held.octets, length_behind t w, begins_) in
    record {
      octets = length_set t w full.octets.items new.octets.items start len begins_ long held.octets set;
      pointers = λ name. rw (same, places_kept t w) (held.pointers name);
    }

-- a vector's items after a write through its slice
pub as_items : (xs ys : List ℕ) (len : ℕ) → length xs ≡ length ys → len ≡ length ys → take len (xs ++ drop (length xs) ys) ≡ xs
as_items xs ys len same len_is =
    rw (drop_all (length xs) ys (omega (arith, same)), append-nil) (take_all len xs (omega (arith, same, len_is)))

pub set_length : (start number : ℕ) (xs whole : List ℕ) → start + 2 ≤ length whole → xs ≡ (take start whole ++ octets16 number) ++ drop (start + 2) whole → length xs ≡ length whole
set_length start number xs whole inside set =
    omega (arith, ap length set, length-append (take start whole ++ octets16 number) (drop (start + 2) whole), length-append (take start whole) (octets16 number), length-take start whole, length-drop (start + 2) whole)

pub refused_as : {A : Type 0} (limit : ℕ) (fault : Fault) (old : Writer A) (a b : Writing) → a ≡ b → Refused limit fault old a → Refused limit fault old b
refused_as limit fault old a b same refused = let P : Writing → Type 0 = λ w. Refused limit fault old w in subst P same refused

-- ---- properties of each element

all_push : {X : Type 0} (P : X → Type 0) (xs : List X) (x : X) → AllByRecursion P xs → P x → AllByRecursion P (xs ++ x ∷ [])
all_push P [] x all one = (one, tt)
all_push P (y ∷ ys) x all one = (all.0, all_push P ys x all.1 one)

pub all_so_far : {X : Type 0} (P : X → Type 0) (xs : List X) (i : ℕ) (x : X) → i < length xs → x ≡ get_or xs i x → AllByRecursion P (take i xs) → P x → AllByRecursion P (take (i + 1) xs)
all_so_far P xs i x lt is all one = rw (take_more xs i x lt) (rw (← is) (all_push P (take i xs) x all one))

pub all_of_them : {X : Type 0} (P : X → Type 0) (xs : List X) (i : ℕ) → length xs ≤ i → AllByRecursion P (take i xs) → AllByRecursion P xs
all_of_them P xs i le all = subst (AllByRecursion P) (take_all i xs le) all
