-- The state of a writer after further writing.
use Rattle.std.proofs.Common.{◌≡◌, ℕ, ◌+◌, ◌-◌, ◌<◌, ◌≤◌, Bool, true, false, cond, ◌&&◌, leb, take, List, [], ◌∷◌, ◌++◌, length, Option, Some, None, refl, sym, ap, ◌∙◌, append_assoc, arith}
use Rattle.std.specs.Bool.{Decides}
use Rattle.std.specs.Option.{option_map, IfSome}
use Rattle.std.specs.Str.{bytes_eq}
use Rattle.std.proofs.lemmas.List.{append-nil, length-append, take_at, take_all}
use Rattle.std.proofs.lemmas.Slice.Eq.{slice_eq-Decides, bytes_eq-Decides}
use Rattle.dns_name.specs.Labels.{labels_of, octets_of, label_octets, IsLaidOut, Splits}
use Rattle.dns_name.proofs.CallerLemmas.{labels_of_octets, labels_of_nothing}
use Rattle.dns_message.specs.declared.writing.pointers.Pointers.{Pointers}
use Rattle.dns_message.specs.declared.writing.writer.Writer.{Writer}
use Rattle.dns_message.specs.Writing.{Place, Text, Writing, as_is, after, ◌▹◌, labels_eq, place_of, pointer_to, octets16, places_at, label_text, name_text}
use Rattle.dns_message.specs.Writer.{Holds, HoldsText, Writes, IsKnown, IsPutIn, pointer_known, pointer_in}

-- ---- a writing after another

-- writing both after a text is writing the second after the text with the first
pub after_both : (t : Text) (a b : Writing) → after t (a ▹ b) ≡ after (after t a) b
unfolding after ◌▹◌
after_both t a b =
    let first : Text = a t.places (length t.octets) in
    let more : Text = b (t.places ++ first.places) (length t.octets + length first.octets) in
    rw (length-append t.octets first.octets)
    (rw (append_assoc t.octets first.octets more.octets, append_assoc t.places first.places more.places) refl)

pub holds_more : {A : Type 0} (old new : Writer A) (xs : List ℕ) → new.octets.items ≡ old.octets.items ++ xs → new.pointers ≡ old.pointers → Writes old new (as_is xs)
unfolding after
holds_more old new xs grown same t h = record {
  octets = grown ∙ ap (λ (o : List ℕ). o ++ xs) h.octets;
  pointers = λ name. rw (same, append-nil) (h.pointers name);
}

pub both : {A : Type 0} (old mid new : Writer A) (a b : Writing) → Writes old mid a → Writes mid new b → Writes old new (a ▹ b)
both old mid new a b first second t h = rw after_both (second (after t a) (first t h))

after_octets : (t : Text) (xs ys : List ℕ) → after (after t (as_is xs)) (as_is ys) ≡ after t (as_is (xs ++ ys))
unfolding after
after_octets t xs ys = rw (append_assoc t.octets xs ys, append-nil t.places, append-nil t.places) refl

-- octets written at once are octets written one after another
pub in_turn : {A : Type 0} (old new : Writer A) (a : Writing) (xs ys : List ℕ) → Writes old new (a ▹ as_is (xs ++ ys)) → Writes old new (a ▹ as_is xs ▹ as_is ys)
in_turn old new a xs ys step t h =
    let apart : after t (a ▹ as_is xs ▹ as_is ys) ≡ after t (a ▹ as_is (xs ++ ys)) =
    after_both t (a ▹ as_is xs) (as_is ys) ∙ ap (λ (u : Text). after u (as_is ys)) (after_both t a (as_is xs)) ∙ after_octets (after t a) xs ys ∙ sym (after_both t a (as_is (xs ++ ys))) in
    rw apart (step t h)

-- ---- on the way

-- the writer holds a text; with `left` written, the text becomes the goal
pub record Reaches {A : Type 0} (now : Writer A) (left : Writing) (goal : Text) : Type 0 where
  pub text : Text
  pub holds : Holds now text
  pub rest : after text left ≡ goal

-- the rest to write of the whole
abbrev pub GoesOn : {A : Type 0} → Writer A → Writer A → Writing → Writing → Type 0
GoesOn start now left whole = (t : Text) → Holds start t → Reaches now left (after t whole)

pub begins : {A : Type 0} (start : Writer A) (whole : Writing) → GoesOn start start whole whole
begins start whole t h = record { text = t; holds = h; rest = refl }

pub goes_on : {A : Type 0} (start mid now : Writer A) (a left whole : Writing) → GoesOn start mid (a ▹ left) whole → Writes mid now a → GoesOn start now left whole
goes_on start mid now a left whole so_far step t h =
    let r = so_far t h in
    record { text = after r.text a; holds = step r.text r.holds; rest = sym (after_both r.text a left) ∙ r.rest }

pub ends : {A : Type 0} (start mid now : Writer A) (left whole : Writing) → GoesOn start mid left whole → Writes mid now left → Writes start now whole
ends start mid now left whole so_far step t h =
    let r = so_far t h in
    rw (← r.rest) (step r.text r.holds)

-- `other` may replace `left` if both give equal texts after each text of the writer
pub instead : {A : Type 0} (start mid : Writer A) (left other whole : Writing) → GoesOn start mid left whole → ((u : Text) → Holds mid u → after u left ≡ after u other) → GoesOn start mid other whole
instead start mid left other whole so_far same t h =
    let r = so_far t h in
    record { text = r.text; holds = r.holds; rest = sym (same r.text r.holds) ∙ r.rest }

-- an equal rest may replace the rest
pub along : {A : Type 0} (start mid : Writer A) (left other whole : Writing) → left ≡ other → GoesOn start mid left whole → GoesOn start mid other whole
along start mid left other whole same so_far = instead start mid left other whole so_far (λ u h. ap (after u) same)

pub writes_nothing : {A : Type 0} (w : Writer A) → Writes w w (as_is [])
writes_nothing w = holds_more w w [] (sym (append-nil w.octets.items)) refl

-- nothing is left
pub all_done : {A : Type 0} (start mid : Writer A) (left whole : Writing) → left ≡ as_is [] → GoesOn start mid left whole → Writes start mid whole
all_done start mid left whole none so_far = ends start mid mid (as_is []) whole (along start mid left (as_is []) whole none so_far) (writes_nothing mid)

-- ---- places

same_tests : {P Q : Type 0} (r s : Bool) → Decides r P → Decides s Q → (P → Q) → (Q → P) → r ≡ s
same_tests true true d e f g = refl
same_tests true false d e f g = sym (e.1 (f (d.0 refl)))
same_tests false true d e f g = d.1 (g (e.0 refl))
same_tests false false d e f g = refl

-- octets are a name's exactly if their labels are
same_name : (octets : List ℕ) (name : List (List ℕ)) → IsLaidOut octets → bytes_eq octets (octets_of name) ≡ labels_eq (labels_of octets) name
same_name octets name laid =
    same_tests (bytes_eq octets (octets_of name)) (labels_eq (labels_of octets) name) (bytes_eq-Decides octets (octets_of name))
    (slice_eq-Decides bytes_eq-Decides (labels_of octets) name (labels_eq (labels_of octets) name) refl)
    (λ e. ap labels_of e ∙ labels_of_octets name) (λ e. sym laid.whole ∙ ap octets_of e)

abbrev one_place : ℕ → List (List ℕ) → List Place
one_place o name = record { offset = o; name = name } ∷ []

push_other : (ps : List Place) (o : ℕ) (name q : List (List ℕ)) → labels_eq name q ≡ false → place_of (ps ++ one_place o name) q ≡ place_of ps q
push_other [] o name q differs = rw differs refl
push_other (p ∷ ps) o name q differs = ap (λ (r : Option ℕ). cond (labels_eq p.name q) (Some p.offset) r) (push_other ps o name q differs)

push_new : (ps : List Place) (o : ℕ) (name q : List (List ℕ)) → labels_eq name q ≡ true → place_of ps q ≡ None → place_of (ps ++ one_place o name) q ≡ Some o
push_new [] o name q same none = rw same refl
push_new (p ∷ ps) o name q same none = push_by (labels_eq p.name q) (λ is. push_new ps o name q same is) none
  where
    push_by : (b : Bool) → (place_of ps q ≡ None → place_of (ps ++ one_place o name) q ≡ Some o) → cond b (Some p.offset) (place_of ps q) ≡ None
        → cond b (Some p.offset) (place_of (ps ++ one_place o name) q) ≡ Some o
    push_by true more is = absurd cc
    push_by false more is = more is

no_place : (r : Option ℕ) → option_map pointer_to r ≡ None → r ≡ None
no_place None is = refl
no_place (Some p) is = absurd cc

-- the pointers lead to the places
abbrev pub PointInto : {A : Type 0} → Pointers A → List Place → Type 0
PointInto ps places = (name : List (List ℕ)) → pointer_known ps (octets_of name) ≡ option_map pointer_to (place_of places name)

-- and still do after an unknown name begins
one_more : {A : Type 0} (ps qs : Pointers A) (places : List Place) (octets : List ℕ) (offset : ℕ) → IsLaidOut octets → pointer_known ps octets ≡ None → IsPutIn ps qs octets offset → PointInto ps places
    → PointInto qs (places ++ places_at offset (labels_of octets))
one_more ps qs places octets offset laid unknown updated into q = rw (updated (octets_of q)) (by_reach (leb offset 16383))
  where
    by_test : (b : Bool) → bytes_eq octets (octets_of q) ≡ b
        → cond b (Some (pointer_to offset)) (pointer_known ps (octets_of q)) ≡ option_map pointer_to (place_of (places ++ one_place offset (labels_of octets)) q)
    by_test true is =
        let e : octets ≡ octets_of q = (bytes_eq-Decides octets (octets_of q)).0 is in
        let none = no_place (place_of places q) (sym (into q) ∙ rw (← e) unknown) in
        rw (push_new places offset (labels_of octets) q (sym (same_name octets q laid) ∙ is) none) refl
    by_test false is = rw (push_other places offset (labels_of octets) q (sym (same_name octets q laid) ∙ is)) (into q)

    by_reach : (near : Bool) → cond (near && bytes_eq octets (octets_of q)) (Some (pointer_to offset)) (pointer_known ps (octets_of q))
        ≡ option_map pointer_to (place_of (places ++ cond near (one_place offset (labels_of octets)) []) q)
    by_reach true = by_test (bytes_eq octets (octets_of q)) refl
    by_reach false = rw (append-nil places) (into q)

-- names shorter than a beginning name stay unknown
pub none_shorter : {A : Type 0} (ps qs : Pointers A) (octets behind : List ℕ) (offset : ℕ) → length behind < length octets → IsPutIn ps qs octets offset
    → ((q : List ℕ) → length q ≤ length octets → pointer_known ps q ≡ None) → (q : List ℕ) → length q ≤ length behind → pointer_known qs q ≡ None
none_shorter ps qs octets behind offset shorter updated none q short = rw (updated q) (by_test (leb offset 16383) (bytes_eq octets q) refl)
  where
    by_test : (near b : Bool) → bytes_eq octets q ≡ b → cond (near && b) (Some (pointer_to offset)) (pointer_known ps q) ≡ None
    by_test near true is = absurd (omega (arith, ap length ((bytes_eq-Decides octets q).0 is)))
    by_test true false is = none q (omega arith)
    by_test false false is = none q (omega arith)

-- ---- the steps of a name

pub root_left : (t : Text) (octets : List ℕ) → octets ≡ [] → after t (name_text (labels_of octets)) ≡ after t (as_is (0 ∷ []))
unfolding after name_text
root_left t octets none = rw (none, labels_of_nothing) refl

label_left : (t : Text) (label : List ℕ) (rest : List (List ℕ)) → place_of t.places (label ∷ rest) ≡ None → after t (name_text (label ∷ rest)) ≡ after t (label_text label rest ▹ name_text rest)
unfolding after name_text
label_left t label rest none = rw none refl

pointer_left : (t : Text) (label : List ℕ) (rest : List (List ℕ)) (offset : ℕ) → place_of t.places (label ∷ rest) ≡ Some offset → after t (name_text (label ∷ rest)) ≡ after t (as_is (octets16 (pointer_to offset)))
unfolding after name_text
pointer_left t label rest offset there = rw there refl

-- a name with a pointer
pub known_left : {A : Type 0} (ps : Pointers A) (octets label : List ℕ) (rest : List (List ℕ)) (pointer : ℕ) → IsLaidOut octets → labels_of octets ≡ label ∷ rest → pointer_known ps octets ≡ Some pointer
    → (u : Text) → PointInto ps u.places → after u (name_text (labels_of octets)) ≡ after u (as_is (octets16 pointer))
known_left ps octets label rest pointer laid labels known u into =
    let at : pointer_known ps (octets_of (labels_of octets)) ≡ Some pointer = rw laid.whole known in
    known_by (place_of u.places (labels_of octets)) refl (sym (into (labels_of octets)) ∙ at)
  where
    known_by : (r : Option ℕ) → place_of u.places (labels_of octets) ≡ r → option_map pointer_to r ≡ Some pointer → after u (name_text (labels_of octets)) ≡ after u (as_is (octets16 pointer))
    known_by None there is = absurd cc
    known_by (Some p) there is =
        let e : pointer_to p ≡ pointer = cc in
        rw (labels, ← e) (pointer_left u label rest p (rw labels at there))

-- the text with a name's front written, and the pointers into this text
pub record Ahead {A : Type 0} (ps : Pointers A) (front : List ℕ) (left : Writing) (start goal : Text) : Type 0 where
  pub text : Text
  pub octets : text.octets ≡ start.octets ++ front
  pub into : PointInto ps text.places
  pub rest : after text left ≡ goal

-- the name's ends are looked up and remembered down to this end, and no octet of the name is
-- written
pub record OnTheWay {A : Type 0} (start now : Writer A) (name end : List ℕ) (is_first : Bool) : Type 0 where
  pub front : List ℕ
  pub whole : name ≡ front ++ end
  pub laid : IsLaidOut end
  pub octets : now.octets.items ≡ start.octets.items
  pub none : is_first ≡ true → (other : List ℕ) → length other ≤ length end → pointer_in now other ≡ None
  pub left : (t : Text) → Holds start t → Ahead now.pointers front (name_text (labels_of end)) t (after t (name_text (labels_of name)))

pub way_begins : {A : Type 0} (w : Writer A) (name : List ℕ) (is_first : Bool) → IsLaidOut name → (is_first ≡ true → (other : List ℕ) → pointer_in w other ≡ None) → OnTheWay w w name name is_first
way_begins w name is_first laid none = record {
  front = [];
  whole = refl;
  laid = laid;
  octets = refl;
  none = λ first other short. none first other;
  left = λ t h. record { text = t; octets = sym (append-nil t.octets); into = h.pointers; rest = refl };
}

-- the end is its first label and the end after it
end_splits : (end label behind : List ℕ) → IsLaidOut end → Splits end label behind → end ≡ label_octets label ++ behind
end_splits end label behind laid splits =
    let same : octets_of (labels_of end) ≡ label_octets label ++ octets_of (labels_of behind) = ap octets_of splits.labels in
    sym laid.whole ∙ same ∙ ap (λ (xs : List ℕ). label_octets label ++ xs) splits.laid.whole

pub way_goes_on : {A : Type 0} (start now next : Writer A) (name end label behind : List ℕ) (is_first : Bool) (offset : ℕ) → OnTheWay start now name end is_first → Splits end label behind → pointer_in now end ≡ None
    → offset ≡ length start.octets.items + (length name - length end) → IsPutIn now.pointers next.pointers end offset → next.octets.items ≡ now.octets.items → OnTheWay start next name behind is_first
unfolding after
way_goes_on start now next name end label behind is_first offset way splits unknown offset_is updated same =
    let parts = end_splits end label behind way.laid splits in record {
      front = way.front ++ label_octets label;
      whole = way.whole ∙ ap (λ (xs : List ℕ). way.front ++ xs) parts ∙ sym (append_assoc way.front (label_octets label) behind);
      laid = splits.laid;
      octets = same ∙ way.octets;
      none = λ first. none_shorter now.pointers next.pointers end behind offset (omega (arith, splits.size)) updated (way.none first);
      left = λ t h.
          let r = way.left t h in
          let here : offset ≡ length r.text.octets = omega (arith, offset_is, ap length r.octets, length-append t.octets way.front, ap length way.whole, length-append way.front end, ap length h.octets) in
          let none = no_place (place_of r.text.places (labels_of end)) (sym (r.into (labels_of end)) ∙ rw way.laid.whole unknown) in
          record {
            text = after r.text (label_text label (labels_of behind));
            octets = ap (λ (xs : List ℕ). xs ++ label_octets label) r.octets ∙ append_assoc t.octets way.front (label_octets label);
            into = rw (← here, ← splits.labels) (one_more now.pointers next.pointers r.text.places end offset way.laid unknown updated r.into);
            rest = sym (after_both r.text (label_text label (labels_of behind)) (name_text (labels_of behind))) ∙ sym (label_left r.text label (labels_of behind) (rw splits.labels at none)) ∙ rw (← splits.labels) r.rest;
          };
    }

-- the front before the root is the whole name
pub all_of : (name end : List ℕ) → end ≡ [] → name ≡ take (length name - length end) name
all_of name end none = sym (take_all (length name - length end) name (omega (arith, ap length none)))

-- the octets of the front and the writing of the end are written
pub way_ends : {A : Type 0} (start now mid new : Writer A) (name end front last : List ℕ) (is_first : Bool) → OnTheWay start now name end is_first → front ≡ take (length name - length end) name
    → mid.octets.items ≡ now.octets.items ++ front → mid.pointers ≡ now.pointers → ((u : Text) → PointInto now.pointers u.places → after u (name_text (labels_of end)) ≡ after u (as_is last)) → Writes mid new (as_is last)
    → Writes start new (name_text (labels_of name))
way_ends start now mid new name end front last is_first way front_is grown same ends_as step t h =
    let r = way.left t h in
    let size : length way.front ≡ length name - length end = omega (arith, ap length way.whole, length-append way.front end) in
    let is : front ≡ way.front = front_is ∙ ap (take (length name - length end)) way.whole ∙ take_at way.front end (length name - length end) size in
    let holds : Holds mid r.text = record { octets = grown ∙ rw (is, way.octets, h.octets, r.octets) refl; pointers = λ q. rw same (r.into q) } in
    rw (← r.rest, ends_as r.text r.into) (step r.text holds)

-- ---- a pointer looked up once

-- a known name's pointer is the whole name
pointer_is_name : {A : Type 0} (w : Writer A) (octets : List ℕ) (pointer : ℕ) → IsLaidOut octets → IsKnown w octets pointer → (t : Text) → Holds w t → after t (name_text (labels_of octets)) ≡ after t (as_is (octets16 pointer))
pointer_is_name w octets pointer laid known t h = is_by (labels_of octets) refl
  where
    is_by : (ls : List (List ℕ)) → labels_of octets ≡ ls → after t (name_text (labels_of octets)) ≡ after t (as_is (octets16 pointer))
    is_by [] none =
        let empty : octets ≡ octets_of [] = sym laid.whole ∙ ap octets_of none in
        absurd (omega (arith, known.some, ap length empty))
    is_by (label ∷ rest) is = known_left w.pointers octets label rest pointer laid is known.is t h.pointers

-- a known name, followed by octets
pub known_written : {A : Type 0} (old new : Writer A) (octets : List ℕ) (pointer : ℕ) (xs : List ℕ) → IsLaidOut octets → IsKnown old octets pointer → Writes old new (as_is (octets16 pointer ++ xs))
    → Writes old new (name_text (labels_of octets) ▹ as_is xs)
known_written old new octets pointer xs laid known step t h =
    let same : after t (name_text (labels_of octets) ▹ as_is xs) ≡ after t (as_is (octets16 pointer ++ xs)) =
    after_both t (name_text (labels_of octets)) (as_is xs) ∙ ap (λ (u : Text). after u (as_is xs)) (pointer_is_name old octets pointer laid known t h) ∙ after_octets t (octets16 pointer) xs in
    rw same (step t h)

place_stays : (ps qs : List Place) (name : List (List ℕ)) (o : ℕ) → place_of ps name ≡ Some o → place_of (ps ++ qs) name ≡ Some o
place_stays [] qs name o there = absurd cc
place_stays (p ∷ ps) qs name o there = stays_by (labels_eq p.name name) (place_stays ps qs name o) there
  where
    stays_by : (b : Bool) → (place_of ps name ≡ Some o → place_of (ps ++ qs) name ≡ Some o) → cond b (Some p.offset) (place_of ps name) ≡ Some o → cond b (Some p.offset) (place_of (ps ++ qs) name) ≡ Some o
    stays_by true more is = is
    stays_by false more is = more is

-- later writing leaves a name's pointer unchanged
pub stays_known : {A : Type 0} (old new : Writer A) (w : Writing) (octets : List ℕ) (pointer : ℕ) → IsLaidOut octets → HoldsText old → Writes old new w → IsKnown old octets pointer → IsKnown new octets pointer
unfolding after
stays_known old new w octets pointer laid (t, h) step known = record { is = known_by (place_of t.places (labels_of octets)) refl; some = known.some }
  where
    known_by : (r : Option ℕ) → place_of t.places (labels_of octets) ≡ r → pointer_in new octets ≡ Some pointer
    known_by None there =
        let was : pointer_in old (octets_of (labels_of octets)) ≡ None = h.pointers (labels_of octets) ∙ ap (option_map pointer_to) there in
        let none : pointer_in old octets ≡ None = rw laid.whole at was in
        absurd (cc (none, known.is))
    known_by (Some o) there =
        let was : pointer_in old (octets_of (labels_of octets)) ≡ Some (pointer_to o) = h.pointers (labels_of octets) ∙ ap (option_map pointer_to) there in
        let is : pointer_in new (octets_of (labels_of octets)) ≡ Some (pointer_to o) =
        (step t h).pointers (labels_of octets) ∙ ap (option_map pointer_to) (place_stays t.places (w t.places (length t.octets)).places (labels_of octets) o there) in
        let before : pointer_in old octets ≡ Some (pointer_to o) = rw laid.whole at was in
        let now : pointer_in new octets ≡ Some (pointer_to o) = rw laid.whole at is in
        now ∙ sym before ∙ known.is

pub stays_if_known : {A : Type 0} (old new : Writer A) (w : Writing) (octets : List ℕ) (known : Option ℕ) → IsLaidOut octets → HoldsText old → Writes old new w → IfSome known (λ pointer. IsKnown old octets pointer)
    → IfSome known (λ pointer. IsKnown new octets pointer)
stays_if_known old new w octets None laid holds step known = tt
stays_if_known old new w octets (Some pointer) laid holds step known = stays_known old new w octets pointer laid holds step known
