-- Written record data is laid out.
use Rattle.std.proofs.Common.{◌≡◌, ℕ, ◌+◌, ◌≤◌, Bool, true, false, cond, List, [], ◌∷◌, ◌++◌, length, take, drop, get_or, Option, Some, None, refl, sym, ap, subst, ◌∙◌, append_assoc, arith}
use Rattle.std.specs.List.{AllByRecursion}
use Rattle.std.specs.Prelude.{IsTrue, is_some}
use Rattle.std.proofs.lemmas.List.{length-append, get_or_at, take_at, drop_at}
use Rattle.std.proofs.lemmas.Bool.{le-ltb}
use Rattle.dns_name.specs.Labels.{label_octets, octets_of, IsLabel}
use Rattle.dns_message.specs.declared.reading.shape.Part.{Part}
use Rattle.dns_message.specs.declared.reading.shape.Part.TheVariants.{Name, Number16, SoaNumbers, Text as String}
use Rattle.dns_message.specs.Shapes.{Shape, shape_of}
use Rattle.dns_message.specs.Names.{NameAt, at_root, inside}
use Rattle.dns_message.specs.Data.{name_octets, IsPart, HasParts, no_parts, more_parts, IsOfShape, IsShaped, PartAt, PartsAt, parts_end, parts_go_on, ShapedAt, DataAt}
use Rattle.dns_message.specs.Fields.{Field, named, plain, first_octets, first_field, fields_of, if_compressed}
use Rattle.dns_message.specs.Writing.{Text, Writing, as_is, after, each, field_text, by_fields, data_text}
use Rattle.dns_message.proofs.names.NameLaws.{within_complete}
use Rattle.dns_message.proofs.writing.WriterLaws.{after_both}
use Rattle.dns_message.proofs.writing.RoundTrip.{Begins, begins_back, begins_long, behind_as_is, octet_at, after_length, after_more, PlacesStand, stands_known, label_stands, name_stands, name_places, as_is_stands}

-- ---- a name in full

pub full_stands : (all : List ℕ) (ls : List (List ℕ)) (front more : List ℕ) (f : ℕ) → AllByRecursion IsLabel ls → all ≡ front ++ (name_octets ls ++ more) → NameAt all (length front) f ls (length front + length (name_octets ls))
unfolding after
full_stands all [] front more f labels whole =
    at_root {o = length front} (omega (arith, ap length whole, length-append front (0 ∷ more))) (rw whole (get_or_at front 0 more 0 (length front) refl)) (omega arith)
full_stands all (l ∷ ls) front more f labels whole =
    let t : Text = record { octets = front; places = [] } in
    let next : List ℕ = front ++ label_octets l in
    let split : name_octets (l ∷ ls) ≡ label_octets l ++ name_octets ls = append_assoc (label_octets l) (octets_of ls) (0 ∷ []) in
    let whole' : all ≡ next ++ (name_octets ls ++ more) = whole ∙ ap (λ (x : List ℕ). front ++ x) (ap (λ (x : List ℕ). x ++ more) split ∙ append_assoc (label_octets l) (name_octets ls) more) ∙ sym (append_assoc front (label_octets l) (name_octets ls ++ more)) in
    let size : length next + length (name_octets ls) ≡ length front + length (name_octets (l ∷ ls)) =
    omega (arith, length-append front (label_octets l), ap length split, length-append (label_octets l) (name_octets ls)) in
    let rest : NameAt all (length next) f ls (length front + length (name_octets (l ∷ ls))) = rw (← size) (full_stands all ls next more f labels.1 whole') in
    label_stands all t f (length front + length (name_octets (l ∷ ls))) l ls labels.0 (record { more = name_octets ls ++ more; whole = whole' }) rest

-- ---- parts written as held

part_here : (part : Part) (all front first more : List ℕ) (stop : ℕ) → IsPart part first → all ≡ front ++ (first ++ more) → length front + length first ≤ stop → PartAt part all stop (length front) first (length front + length first)
part_here Name all front first more stop (labels, name, is) whole le =
    (labels, rw (ap length is) (full_stands all labels front more (length front) name.each (rw is at whole)), name.short, le, is)
part_here Number16 all front first more stop size whole le =
    (omega (arith, le, size), sym (ap (take 2) (ap (drop (length front)) whole ∙ drop_at front (first ++ more) (length front) refl) ∙ take_at first more 2 size), omega (arith, size))
part_here SoaNumbers all front first more stop size whole le =
    (omega (arith, le, size), sym (ap (take 20) (ap (drop (length front)) whole ∙ drop_at front (first ++ more) (length front) refl) ∙ take_at first more 20 size), omega (arith, size))
part_here String all front first more stop (text, is) whole le =
    let here : get_or all (length front) 0 ≡ length text = rw (whole, is) (get_or_at front (length text) (text ++ more) 0 (length front) refl) in
    let size : length first ≡ length text + 1 = omega (arith, ap length is) in
    (omega (arith, le, size, here), sym (ap (take (get_or all (length front) 0 + 1)) (ap (drop (length front)) whole ∙ drop_at front (first ++ more) (length front) refl) ∙ take_at first more (get_or all (length front) 0 + 1) (omega (arith, size, here))), omega (arith, size, here))

pub parts_here : (parts : List Part) (xs all front more : List ℕ) (stop : ℕ) → HasParts parts xs → all ≡ front ++ (xs ++ more) → stop ≡ length front + length xs → PartsAt all stop parts (length front) xs
parts_here [] [] all front more stop no_parts whole ends = parts_end (omega (arith, ends))
parts_here [] (x ∷ xs) all front more stop shaped whole ends = elim shaped [ ]
parts_here (part ∷ parts) xs all front more stop (more_parts first rest is_part others is) whole ends =
    let size : length xs ≡ length first + length rest = ap length is ∙ length-append first rest in
    let whole' : all ≡ front ++ (first ++ (rest ++ more)) = whole ∙ ap (λ (x : List ℕ). front ++ x) (ap (λ (x : List ℕ). x ++ more) is ∙ append_assoc first rest more) in
    let behind : PartsAt all stop parts (length (front ++ first)) rest =
    parts_here parts rest all (front ++ first) more stop others (whole' ∙ sym (append_assoc front first (rest ++ more))) (omega (arith, ends, size, length-append front first)) in
    parts_go_on (length front + length first) first rest (part_here part all front first (rest ++ more) stop is_part whole' (omega (arith, ends, size))) (rw (← length-append front first) behind) is

-- ---- parts written field by field

-- a written part is laid out
record Made (part : Part) (first rest : List ℕ) : Type 0 where
  field : Field
  is : first_field part (first ++ rest) ≡ Some (field, rest)
  stands : (all : List ℕ) (t : Text) (stop : ℕ) → PlacesStand all t → Begins all (after t (field_text field)).octets → length (after t (field_text field)).octets ≤ stop
      → PartAt part all stop (length t.octets) first (length (after t (field_text field)).octets) × PlacesStand all (after t (field_text field))

so_many : (n : ℕ) (first rest : List ℕ) → length first ≡ n → first_octets n (first ++ rest) ≡ Some (plain first, rest)
so_many n first rest size = rw (le-ltb (length (first ++ rest)) n (omega (arith, length-append first rest, size)), take_at first rest n size, drop_at first rest n size) refl

octets_stand : (all : List ℕ) (t : Text) (first : List ℕ) (n stop : ℕ) → length first ≡ n → Begins all (after t (as_is first)).octets → length (after t (as_is first)).octets ≤ stop
    → (length t.octets + n ≤ stop) × (first ≡ take n (drop (length t.octets) all)) × (length (after t (as_is first)).octets ≡ length t.octets + n)
octets_stand all t first n stop size b le =
    let behind = behind_as_is all t first b in
    (omega (arith, le, after_length t first, size), sym (ap (take n) behind.rest ∙ take_at first behind.more n size), omega (arith, after_length t first, size))

made : (part : Part) (first rest : List ℕ) → IsPart part first → Made part first rest
unfolding first_field
made Name first rest (labels, name, is) =
    let xs : List ℕ = first ++ rest in
    let P : ℕ → Type 0 = λ e. NameAt xs 0 0 labels e in
    let same : 0 + length (name_octets labels) ≡ length (name_octets labels) = omega arith in
    let at : NameAt xs 0 0 labels (length (name_octets labels)) = subst P same (full_stands xs labels [] rest 0 name.each (ap (λ (x : List ℕ). x ++ rest) is)) in
    let read = within_complete xs (inside (length xs)) 0 labels (length (name_octets labels)) at name.short (omega (arith, length-append first rest, ap length is)) in
    record {
      field = named labels;
      is = rw read (ap (λ (x : List ℕ). Some (named labels, x)) (drop_at first rest (length (name_octets labels)) (ap length is)));
      stands = λ all t stop stand b le. ((labels, name_stands all labels t (length t.octets) name.each (stands_known all t labels stand) b, name.short, le, is), name_places all labels t stand name.each b);
    }
made Number16 first rest size = record { field = plain first; is = so_many 2 first rest size; stands = λ all t stop stand b le. (octets_stand all t first 2 stop size b le, as_is_stands all t first stand) }
made SoaNumbers first rest size = record { field = plain first; is = so_many 20 first rest size; stands = λ all t stop stand b le. (octets_stand all t first 20 stop size b le, as_is_stands all t first stand) }
made String first rest (text, is) =
    let P : List ℕ → Type 0 = λ x. Made String x rest in
    subst P (sym is) (record {
      field = plain (label_octets text);
      is = so_many (length text + 1) (label_octets text) rest (omega arith);
      stands = λ all t stop stand b le.
          let here = octet_at all t (length text) text b in
          (rw here (octets_stand all t (label_octets text) (length text + 1) stop (omega arith) b le), as_is_stands all t (label_octets text) stand);
    })

-- written parts are laid out
pub record Fielded (parts : List Part) (xs : List ℕ) : Type 0 where
  pub fields : List Field
  pub is : fields_of parts xs ≡ Some fields
  pub stands : (all : List ℕ) (t : Text) (stop : ℕ) → PlacesStand all t → Begins all (after t (each field_text fields)).octets → length (after t (each field_text fields)).octets ≡ stop
      → PartsAt all stop parts (length t.octets) xs × PlacesStand all (after t (each field_text fields))

each_first : (f : Field) (fs : List Field) (t : Text) → after t (each field_text (f ∷ fs)) ≡ after (after t (field_text f)) (each field_text fs)
unfolding each
each_first f fs t = after_both t (field_text f) (each field_text fs)

each_none : (t : Text) → after t (each field_text []) ≡ after t (as_is [])
unfolding each
each_none t = refl

fielded_more : (part : Part) (parts : List Part) (xs first rest : List ℕ) → xs ≡ first ++ rest → Made part first rest → Fielded parts rest → Fielded (part ∷ parts) xs
unfolding fields_of
fielded_more part parts xs first rest is m others = record {
  fields = m.field ∷ others.fields;
  is = rw (is, m.is, others.is) refl;
  stands = λ all t stop stand b ends.
      let b' : Begins all (after (after t (field_text m.field)) (each field_text others.fields)).octets = rw (each_first m.field others.fields t) at b in
      let ends' : length (after (after t (field_text m.field)) (each field_text others.fields)).octets ≡ stop = rw (each_first m.field others.fields t) at ends in
      let first_begins = begins_back all (after t (field_text m.field)) (each field_text others.fields) b' in
      let here = m.stands all t stop stand first_begins (omega (arith, ends', after_more (after t (field_text m.field)) (each field_text others.fields))) in
      let there = others.stands all (after t (field_text m.field)) stop here.1 b' ends' in
      (parts_go_on (length (after t (field_text m.field)).octets) first rest here.0 there.0 is, rw (each_first m.field others.fields t) there.1);
}

pub fielded : (parts : List Part) (xs : List ℕ) → HasParts parts xs → Fielded parts xs
unfolding fields_of
fielded [] [] no_parts = record {
  fields = [];
  is = refl;
  stands = λ all t stop stand b ends.
      let same : length (after t (as_is [])).octets ≡ stop = rw (each_none t) at ends in
      (parts_end (omega (arith, same, after_length t [])), rw (each_none t) (as_is_stands all t [] stand));
}
fielded [] (x ∷ xs) shaped = elim shaped [ ]
fielded (part ∷ parts) xs (more_parts first rest is_part others is) = fielded_more part parts xs first rest is (made part first rest is_part) (fielded parts rest others)

-- data of the type's shape has the parts
pub shaped_fields : (kind : ℕ) (shape : Shape) (rdata : List ℕ) → Some shape ≡ shape_of kind → IsShaped kind rdata → IsTrue (is_some (fields_of shape.parts rdata))
shaped_fields kind shape rdata is shaped =
    let parts : HasParts shape.parts rdata = subst (λ (s : Option Shape). IsOfShape s rdata) (sym is) shaped in
    let f = fielded shape.parts rdata parts in
    rw f.is refl

-- ---- the data of a record

abbrev DataStands : Option Shape → List ℕ → List ℕ → Text → Writing → Type 0
DataStands shape rdata all t w =
    (len : ℕ) → length (after t w).octets ≡ length t.octets + len → ShapedAt shape all (length t.octets) len rdata × PlacesStand all (after t w)

plain_stands : (parts : List Part) (compressed : Bool) (rdata all : List ℕ) (t : Text) → HasParts parts rdata → PlacesStand all t → Begins all (after t (as_is rdata)).octets
    → DataStands (Some (record { parts = parts; compressed = compressed })) rdata all t (as_is rdata)
unfolding after
plain_stands parts compressed rdata all t shaped stand b len size =
    let size' : len ≡ length rdata = omega (arith, size, length-append t.octets rdata) in
    (parts_here parts rdata all t.octets b.more (length t.octets + len) shaped (b.whole ∙ append_assoc t.octets rdata b.more) (omega (arith, size')), as_is_stands all t rdata stand)

fields_stand : (parts : List Part) (rdata all : List ℕ) (t : Text) → Fielded parts rdata → PlacesStand all t → Begins all (after t (by_fields (fields_of parts rdata) rdata)).octets
    → DataStands (Some (record { parts = parts; compressed = true })) rdata all t (by_fields (fields_of parts rdata) rdata)
fields_stand parts rdata all t f stand b len size =
    let b' : Begins all (after t (each field_text f.fields)).octets = rw f.is at b in
    let size' : length (after t (each field_text f.fields)).octets ≡ length t.octets + len = rw f.is at size in
    rw f.is (f.stands all t (length t.octets + len) stand b' size')

data_by : (shape : Option Shape) (rdata all : List ℕ) (t : Text) → IsOfShape shape rdata → PlacesStand all t → Begins all (after t (by_fields (if_compressed shape rdata) rdata)).octets
    → DataStands shape rdata all t (by_fields (if_compressed shape rdata) rdata)
data_by None rdata all t shaped stand b = λ len size.
    let here = octets_stand all t rdata (length rdata) (length (after t (as_is rdata)).octets) refl b (omega arith) in
    let same : len ≡ length rdata = omega (arith, size, after_length t rdata) in
    (rw same here.1, as_is_stands all t rdata stand)
data_by (Some shape) rdata all t shaped stand b = by_flag shape.compressed b
  where
    by_flag : (c : Bool) → Begins all (after t (by_fields (cond c (fields_of shape.parts rdata) None) rdata)).octets → DataStands (Some (record { parts = shape.parts; compressed = c })) rdata all t (by_fields (cond c (fields_of shape.parts rdata) None) rdata)
    by_flag true b' = fields_stand shape.parts rdata all t (fielded shape.parts rdata shaped) stand b'
    by_flag false b' = plain_stands shape.parts false rdata all t shaped stand b'

-- written data is laid out
pub data_stands : (kind : ℕ) (rdata all : List ℕ) (t : Text) (len : ℕ) → IsShaped kind rdata → PlacesStand all t → Begins all (after t (data_text kind rdata)).octets
    → length (after t (data_text kind rdata)).octets ≡ length t.octets + len → DataAt kind all (length t.octets) len rdata × PlacesStand all (after t (data_text kind rdata))
unfolding data_text
data_stands kind rdata all t len shaped stand b size =
    let here = data_by (shape_of kind) rdata all t shaped stand b len size in
    let inside_ = begins_long all (after t (by_fields (if_compressed (shape_of kind) rdata) rdata)).octets b in
    ((omega (arith, size, inside_), here.0), here.1)
