-- Labels of a name, and the faults of other labels.
use Rattle.std.proofs.Common.{◌≡◌, ℕ, ◌+◌, ◌<◌, ◌≤◌, List, [], ◌∷◌, ◌++◌, length, take, drop, get_or, map, Option, Some, None, Result, Ok, Err, refl, sym, ap, ◌∙◌, append_assoc, arith, inl, inr}
use Rattle.std.proofs.lemmas.Bool.{lt-ltb, le-ltb, cases_lt}
use Rattle.plain_values.proofs.CallerLemmas.{fault_of_part}
use Rattle.dns_name.specs.declared.fault.NameFault.{NameFault}
use Rattle.dns_name.specs.declared.fault.NameFault.TheVariants.{NameLong}
use Rattle.std.specs.List.{AllByRecursion}
use Rattle.dns_name.specs.Labels.{size_of, IsLabel, IsName, labels_of}
use Rattle.dns_name.specs.Faults.{label_fault, fault_or, first_fault, sized, judged, named, pushed, wants_memory, Fails}
use Rattle.dns_name.specs.Text.{written_label_fault, labels_in, name_in}
use Rattle.std.proofs.Common.{Vec}
use Rattle.std.proofs.lemmas.List.{take_more, map-append, take-append-drop}
use Rattle.dns_name.proofs.LabelLaws.{Grows, size_of-append, size_of-push, size_of-some}

pub pushed_long : (labels : List (List ℕ)) (label : List ℕ) → 255 < size_of (labels ++ label ∷ []) → pushed labels label ≡ Err NameLong
unfolding pushed
pushed_long labels label lt = rw (lt-ltb 255 (size_of (labels ++ label ∷ [])) lt) refl

pub pushed_fits : (labels : List (List ℕ)) (label : List ℕ) → size_of (labels ++ label ∷ []) ≤ 255 → pushed labels label ≡ Ok (labels ++ label ∷ [])
unfolding pushed
pushed_fits labels label le = rw (le-ltb 255 (size_of (labels ++ label ∷ [])) le) refl

pub pushes : (old new label : List ℕ) → Grows old new label → pushed (labels_of old) label ≡ Ok (labels_of new)
pushes old new label g = pushed_fits (labels_of old) label g.size ∙ ap Ok (sym g.labels)

-- ---- a loop over labels, with no fault so far

abbrev pub FaultOf : Type 0
FaultOf = List ℕ → Option NameFault

both_none : (here next : Option NameFault) → fault_or here next ≡ None → (here ≡ None) × (next ≡ None)
both_none None next none = (refl, none)
both_none (Some e) next none = absurd cc

-- a label among labels without a fault has no fault
pub none_at : (fault_of : FaultOf) (front : List (List ℕ)) (label : List ℕ) (rest : List (List ℕ)) → first_fault fault_of (front ++ label ∷ rest) ≡ None → fault_of label ≡ None
none_at fault_of [] label rest none = (both_none (fault_of label) (first_fault fault_of rest) none).0
none_at fault_of (l ∷ ls) label rest none = none_at fault_of ls label rest (both_none (fault_of l) (first_fault fault_of (ls ++ label ∷ rest)) none).1

pub is_label : (label : List ℕ) → label_fault label ≡ None → IsLabel label
is_label [] none = absurd cc
is_label (x ∷ xs) none =
    elim (cases_lt 63 (length (x ∷ xs))) [
      | inl lt ↦ absurd (grind (arith, none, lt))
      | inr le ↦ record { some = omega arith; short = le }
    ]

pub is_written_label : (label : List ℕ) → written_label_fault label ≡ None → IsLabel label
is_written_label [] none = absurd cc
is_written_label (x ∷ xs) none =
    elim (cases_lt 63 (length (x ∷ xs))) [
      | inl lt ↦ absurd (grind (arith, none, lt))
      | inr le ↦ record { some = omega arith; short = le }
    ]

judged_long : (fault_of : FaultOf) (labels : List (List ℕ)) → first_fault fault_of labels ≡ None → 255 < size_of labels → judged fault_of labels ≡ Err NameLong
judged_long fault_of labels none lt = rw (none, lt-ltb 255 (size_of labels) lt) refl

pub judged_fits : (fault_of : FaultOf) (labels : List (List ℕ)) → first_fault fault_of labels ≡ None → size_of labels ≤ 255 → judged fault_of labels ≡ Ok labels
judged_fits fault_of labels none le = rw (none, le-ltb 255 (size_of labels) le) refl

pub judged_fault : (fault_of : FaultOf) (labels : List (List ℕ)) (e : NameFault) → first_fault fault_of labels ≡ Some e → judged fault_of labels ≡ Err e
judged_fault fault_of labels e is = rw is refl

abbrev bad : NameFault → Result (List (List ℕ)) NameFault
bad e = Err e

-- `pushed` refuses only too long a name
pushed_refuses : (labels : List (List ℕ)) (label : List ℕ) (e : NameFault) → pushed labels label ≡ bad e → (e ≡ NameLong) × (255 < size_of (labels ++ label ∷ []))
pushed_refuses labels label e is =
    elim (cases_lt 255 (size_of (labels ++ label ∷ []))) [
      | inl lt ↦ (let h : bad NameLong ≡ bad e = sym (pushed_long labels label lt) ∙ is in cc, lt)
      | inr le ↦ absurd (let h : Ok (labels ++ label ∷ []) ≡ bad e = sym (pushed_fits labels label le) ∙ is in cc)
    ]

refused : (fault_of : FaultOf) (labels front : List (List ℕ)) (label : List ℕ) (rest : List (List ℕ)) (e : NameFault) → labels ≡ front ++ label ∷ rest → first_fault fault_of labels ≡ None
    → pushed front label ≡ bad e → judged fault_of labels ≡ bad e
refused fault_of labels front label rest e parts none fails =
    let p = pushed_refuses front label e fails in
    rw p.0 (judged_long fault_of labels none (omega (arith, p.1, ap size_of parts, size_of-append front (label ∷ rest), size_of-push front label, size_of-some rest)))

-- if a label cannot follow the labels before, the labels are no name
pub refuses : (fault_of : FaultOf) (labels front : List (List ℕ)) (label : List ℕ) (rest : List (List ℕ)) (e : NameFault) → labels ≡ front ++ label ∷ rest → first_fault fault_of labels ≡ None
    → Fails e (pushed front label) → Fails e (judged fault_of labels)
refuses fault_of labels front label rest e parts none fails =
    fault_of_part wants_memory e (pushed front label) (judged fault_of labels) (refused fault_of labels front label rest e parts none) fails

-- `pushed` gives the labels with the new label, if short enough
pub pushed_gives : (labels new : List (List ℕ)) (label : List ℕ) → pushed labels label ≡ Ok new → (new ≡ labels ++ label ∷ []) × (size_of new ≤ 255)
pushed_gives labels new label is =
    elim (cases_lt 255 (size_of (labels ++ label ∷ []))) [
      | inl lt ↦ absurd (let h : bad NameLong ≡ Ok new = sym (pushed_long labels label lt) ∙ is in cc)
      | inr le ↦
          let h : Ok new ≡ Ok (labels ++ label ∷ []) = sym is ∙ pushed_fits labels label le in
          let same : new ≡ labels ++ label ∷ [] = cc in
          (same, rw same le)
    ]

-- ---- labels without a fault are a name

each_label : (fault_of : FaultOf) → ((label : List ℕ) → fault_of label ≡ None → IsLabel label) → (labels : List (List ℕ)) → first_fault fault_of labels ≡ None → AllByRecursion IsLabel labels
each_label fault_of told [] none = tt
each_label fault_of told (l ∷ ls) none =
    let first = both_none (fault_of l) (first_fault fault_of ls) none in
    (told l first.0, each_label fault_of told ls first.1)

sized_name : (fault : Option NameFault) (labels name : List (List ℕ)) → sized fault labels ≡ Ok name → (fault ≡ None) × (name ≡ labels) × (size_of labels ≤ 255)
sized_name (Some e) labels name is = absurd (let no : bad e ≡ Ok name = is in cc)
sized_name None labels name is =
    elim (cases_lt 255 (size_of labels)) [
      | inl lt ↦ absurd (let no : bad NameLong ≡ Ok name = rw (lt-ltb 255 (size_of labels) lt) at is in cc)
      | inr le ↦
          let fits : Ok labels ≡ Ok name = rw (le-ltb 255 (size_of labels) le) at is in
          let one : name ≡ labels = cc in
          (refl, one, le)
    ]

judged_name : (fault_of : FaultOf) → ((label : List ℕ) → fault_of label ≡ None → IsLabel label) → (labels name : List (List ℕ)) → judged fault_of labels ≡ Ok name → IsName name
judged_name fault_of told labels name is =
    let parts = sized_name (first_fault fault_of labels) labels name is in
    rw parts.1 (record { each = each_label fault_of told labels parts.0; short = parts.2 })

pub named_name : (labels name : List (List ℕ)) → named labels ≡ Ok name → IsName name
named_name labels name is = judged_name label_fault is_label labels name is

pub name_in_name : (text : List ℕ) (name : List (List ℕ)) → name_in text ≡ Ok name → IsName name
name_in_name text name is = judged_name written_label_fault is_written_label (labels_in text) name is

-- ---- labels in vectors

abbrev pub items_of : {Z : Type 0} → List (Vec ℕ Z) → List (List ℕ)
items_of vs = map (λ v. v.items) vs

parts_at : {Z : Type 0} → (vs : List (Vec ℕ Z)) (i : ℕ) (v : Vec ℕ Z) → i < length vs → vs ≡ take i vs ++ get_or vs i v ∷ drop (i + 1) vs
parts_at {Z = Z} vs i v lt =
    sym (take-append-drop (i + 1) vs) ∙ ap (λ (front : List (Vec ℕ Z)). front ++ drop (i + 1) vs) (take_more vs i v lt) ∙ append_assoc (take i vs) (get_or vs i v ∷ []) (drop (i + 1) vs)

-- the labels before a place, the label at the place, and the labels after
pub items_split : {Z : Type 0} → (vs : List (Vec ℕ Z)) (i : ℕ) (v : Vec ℕ Z) → i < length vs → v ≡ get_or vs i v → items_of vs ≡ items_of (take i vs) ++ v.items ∷ items_of (drop (i + 1) vs)
items_split {Z = Z} vs i v lt is =
    let same : v.items ≡ (get_or vs i v).items = ap (λ (w : Vec ℕ Z). w.items) is in
    rw same (ap items_of (parts_at vs i v lt) ∙ map-append (λ (w : Vec ℕ Z). w.items) (take i vs) (get_or vs i v ∷ drop (i + 1) vs))

pub items_more : {Z : Type 0} → (vs : List (Vec ℕ Z)) (i : ℕ) (v : Vec ℕ Z) → i < length vs → v ≡ get_or vs i v → items_of (take i vs) ++ v.items ∷ [] ≡ items_of (take (i + 1) vs)
items_more vs i v lt is = rw (take_more vs i v lt, ← is, map-append) refl
