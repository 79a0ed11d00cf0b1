-- Values read have their shapes, with every name in full.
use Rattle.std.proofs.Common.{◌≡◌, ℕ, ◌+◌, ◌-◌, ◌<◌, ◌≤◌, Bool, true, false, cond, List, [], ◌∷◌, ◌++◌, length, take, drop, get_or, Option, Some, None, Result, Ok, Err, eqb, refl, sym, ap, subst, ◌∙◌, append_assoc, add-one, arith}
use Rattle.std.specs.List.{AllByRecursion}
use Rattle.std.specs.Prelude.{IfOk}
use Rattle.std.proofs.lemmas.List.{append-nil, length-append, length-take, length-drop, drop_more, drop_all, drop-drop, take-append-drop, get_or_at, drop_at, take_at}
use Rattle.dns_name.specs.Labels.{IsLabel, IsName, label_octets, labels_of, octets_of, size_of, IsLaidOut}
use Rattle.dns_name.proofs.CallerLemmas.{labels_of_octets, octets_are_laid_out}
use Rattle.dns_message.specs.declared.names.fault.Fault.{Fault}
use Rattle.dns_message.specs.declared.reading.shape.Part.{Part}
use Rattle.dns_message.specs.declared.reading.shape.Part.TheVariants.{Name, Number16, SoaNumbers, Text}
use Rattle.dns_message.specs.Values.{Record, Message}
use Rattle.dns_message.specs.declared.reading.header.Header.{Header}
use Rattle.dns_message.specs.Shapes.{Shape, shape_of}
use Rattle.dns_message.specs.Header.{FitsBits, header_in}
use Rattle.dns_message.specs.Reading.{Gives, end_read}
use Rattle.dns_message.specs.Names.{NameAt, at_root, at_label, at_pointer, target, name_at}
use Rattle.dns_message.specs.Data.{name_octets, IsPart, HasParts, no_parts, more_parts, IsOfShape, IsShaped, PartAt, PartsAt, parts_end, parts_go_on, ShapedAt, DataAt, name_if_all, name_of_rdata}
use Rattle.dns_message.specs.Records.{RecordAt, InRow}
use Rattle.dns_message.specs.Messages.{Spells, AreShaped, HasShapes, message_of}
use Rattle.dns_message.proofs.names.NameLaws.{name_sound, name_complete}
use Rattle.dns_message.proofs.reading.SpellLaws.{read_as}
use Rattle.dns_message.proofs.reading.WholeLaws.{header_is, spelled_by}

-- ---- names

pub labels_are : (bytes : List ℕ) (o f e : ℕ) (ls : List (List ℕ)) → NameAt bytes o f ls e → AllByRecursion IsLabel ls
labels_are bytes o f e [] (at_root there none here) = tt
labels_are bytes o f e (l ∷ ls) (at_label some short there l-is rest) =
    let long : length l ≡ get_or bytes o 0 = omega (arith, ap length l-is, length-take (get_or bytes o 0) (drop (o + 1) bytes), length-drop (o + 1) bytes) in
    (record { some = omega (arith, long); short = omega (arith, long) }, labels_are bytes (o + 1 + get_or bytes o 0) f e ls rest)
labels_are bytes o f e ls (at_pointer {e' = e'} high there back rest here) = labels_are bytes (target bytes o) (target bytes o) e' ls rest

pub name_is : (bytes : List ℕ) (o f e : ℕ) (ls : List (List ℕ)) → NameAt bytes o f ls e → size_of ls ≤ 255 → IsName ls
name_is bytes o f e ls at fits = record { each = labels_are bytes o f e ls at; short = fits }

-- ---- parts

take_first : (n x : ℕ) (xs : List ℕ) → take (n + 1) (x ∷ xs) ≡ x ∷ take n xs
take_first n x xs = rw add-one refl

text_octets : (bytes : List ℕ) (o len : ℕ) → o < length bytes → len ≡ get_or bytes o 0 → o + (len + 1) ≤ length bytes → take (len + 1) (drop o bytes) ≡ label_octets (take len (drop (o + 1) bytes))
text_octets bytes o len lt is le =
    let long : length (take len (drop (o + 1) bytes)) ≡ len = omega (arith, length-take len (drop (o + 1) bytes), length-drop (o + 1) bytes) in
    rw (drop_more bytes o 0 lt, long, is) (take_first (get_or bytes o 0) (get_or bytes o 0) (drop (o + 1) bytes))

part_is : (part : Part) (bytes : List ℕ) (stop o : ℕ) (octets : List ℕ) (e : ℕ) → stop ≤ length bytes → PartAt part bytes stop o octets e → IsPart part octets
part_is Name bytes stop o octets e le at = (at.0, name_is bytes o o e at.0 at.1 at.2, at.4)
part_is Number16 bytes stop o octets e le at = ap length at.1 ∙ omega (arith, length-take 2 (drop o bytes), length-drop o bytes, at.0)
part_is SoaNumbers bytes stop o octets e le at = ap length at.1 ∙ omega (arith, length-take 20 (drop o bytes), length-drop o bytes, at.0)
part_is Text bytes stop o octets e le at =
    let there : o + (get_or bytes o 0 + 1) ≤ stop = at.0 in
    (take (get_or bytes o 0) (drop (o + 1) bytes), at.1 ∙ text_octets bytes o (get_or bytes o 0) (omega (arith, there, le)) refl (omega (arith, there, le)))

parts_are : (parts : List Part) (bytes : List ℕ) (stop o : ℕ) (octets : List ℕ) → stop ≤ length bytes → PartsAt bytes stop parts o octets → HasParts parts octets
parts_are [] bytes stop o [] le (parts_end same) = no_parts
parts_are [] bytes stop o (x ∷ xs) le at = elim at [ ]
parts_are (part ∷ parts) bytes stop o octets le (parts_go_on e first rest one more all) =
    more_parts first rest (part_is part bytes stop o first e le one) (parts_are parts bytes stop e rest le more) all

shaped_is : (shape : Option Shape) (bytes : List ℕ) (o len : ℕ) (octets : List ℕ) → o + len ≤ length bytes → ShapedAt shape bytes o len octets → IsOfShape shape octets
shaped_is None bytes o len octets le at = tt
shaped_is (Some shape) bytes o len octets le at = parts_are shape.parts bytes (o + len) o octets le at

pub data_is : (kind : ℕ) (bytes : List ℕ) (o len : ℕ) (octets : List ℕ) → DataAt kind bytes o len octets → IsShaped kind octets
data_is kind bytes o len octets at = shaped_is (shape_of kind) bytes o len octets at.0 at.1

-- ---- messages

records_are : (bytes : List ℕ) (o : ℕ) (records : List Record) (e : ℕ) → InRow (RecordAt bytes) o records e → AreShaped records
records_are bytes o [] e row = tt
records_are bytes o (entry ∷ entries) e row =
    let at : RecordAt bytes o entry row.0 = row.1 in
    (data_is entry.kind bytes (at.after + 10) _ entry.rdata at.rdata, records_are bytes row.0 entries e row.2)

pub spelled_shapes : (bytes : List ℕ) (message : Message) → Spells bytes message → HasShapes message
spelled_shapes bytes message s = record {
  answers = records_are bytes s.questions_end message.answers s.answers_end s.answers;
  authority = records_are bytes s.answers_end message.authority s.authority_end s.authority;
  additional = records_are bytes s.authority_end message.additional s.additional_end s.additional;
}

pub read_shaped : (bytes : List ℕ) (message : Message) → message_of bytes ≡ Ok message → HasShapes message
read_shaped bytes message is = spelled_shapes bytes message (spelled_by bytes message is)

pub given_shaped : (bytes : List ℕ) (r : Result Message Fault) → Gives (λ m. m) r (message_of bytes) → IfOk r (λ m. HasShapes m)
given_shaped bytes (Ok m) given = read_shaped bytes m given
given_shaped bytes (Err f) given = tt

-- ---- the header

fits_in : (bytes : List ℕ) → FitsBits (header_in bytes)
fits_in bytes = record { opcode = omega arith; z = omega arith; rcode = omega arith }

header_fits : (bytes : List ℕ) (message : Message) → Spells bytes message → FitsBits message.header
header_fits bytes message s =
    let P : Header → Type 0 = λ h. FitsBits h in
    subst P (header_is bytes message.header s.header) (fits_in bytes)

pub given_fits : (bytes : List ℕ) (r : Result Message Fault) → Gives (λ m. m) r (message_of bytes) → IfOk r (λ m. FitsBits m.header)
given_fits bytes (Ok m) given = header_fits bytes m (spelled_by bytes m given)
given_fits bytes (Err f) given = tt

-- ---- a name in octets of its own

regroup : (l more last after : List ℕ) → l ++ ((more ++ last) ++ after) ≡ ((l ++ more) ++ last) ++ after
regroup l more last after = simp append_assoc

-- without pointers the octets have the labels in full
stands : (bytes : List ℕ) (o f e : ℕ) (ls : List (List ℕ)) → f ≡ 0 → NameAt bytes o f ls e → drop o bytes ≡ name_octets ls ++ drop e bytes
stands bytes o f e [] none (at_root there zero_here here) = rw (drop_more bytes o 0 there, zero_here, here) refl
stands bytes o f e (l ∷ ls) none (at_label some short there l-is rest) =
    let len : ℕ = get_or bytes o 0 in
    let long : length l ≡ len = omega (arith, ap length l-is, length-take len (drop (o + 1) bytes), length-drop (o + 1) bytes) in
    let more : drop (o + 1 + len) bytes ≡ name_octets ls ++ drop e bytes = stands bytes (o + 1 + len) f e ls none rest in
    let behind_length : drop (o + 1) bytes ≡ l ++ (name_octets ls ++ drop e bytes) =
    sym (take-append-drop len (drop (o + 1) bytes)) ∙ ap (λ (t : List ℕ). t ++ drop len (drop (o + 1) bytes)) (sym l-is) ∙ ap (λ (t : List ℕ). l ++ t) (drop-drop len (o + 1) bytes ∙ more) in
    drop_more bytes o 0 (omega arith) ∙ ap (λ (t : List ℕ). len ∷ t) (behind_length ∙ regroup l (octets_of ls) (0 ∷ []) (drop e bytes)) ∙ ap (λ (n : ℕ). (n ∷ ((l ++ octets_of ls) ++ 0 ∷ [])) ++ drop e bytes) (sym long)
stands bytes o f e ls none (at_pointer high there back rest here) = absurd (omega (arith, back))

label_at : (octets front more l : List ℕ) (f e : ℕ) (ls : List (List ℕ)) → IsLabel l → octets ≡ front ++ (length l ∷ (l ++ more)) → NameAt octets (length front + 1 + length l) f ls e → NameAt octets (length front) f (l ∷ ls) e
label_at octets front more l f e ls is_label shape rest =
    let o : ℕ = length front in
    let first : get_or octets o 0 ≡ length l = rw shape (get_or_at front (length l) (l ++ more) 0 o refl) in
    let after : drop (o + 1) octets ≡ l ++ more =
    ap (drop (o + 1)) (shape ∙ sym (append_assoc front (length l ∷ []) (l ++ more))) ∙ drop_at (front ++ length l ∷ []) (l ++ more) (o + 1) (length-append front (length l ∷ [])) in
    let size : length octets ≡ o + 1 + length l + length more = omega (arith, ap length shape, length-append front (length l ∷ (l ++ more)), length-append l more) in
    at_label (omega (arith, first, is_label.some)) (omega (arith, first, is_label.short)) (omega (arith, first, size)) (rw (first, after) (sym (take_at l more (length l) refl))) (rw first rest)

-- a name in full is laid out
pub written_at : (front : List ℕ) (f : ℕ) (ls : List (List ℕ)) → AllByRecursion IsLabel ls → NameAt (front ++ name_octets ls) (length front) f ls (length (front ++ name_octets ls))
written_at front f [] each = at_root (omega (arith, length-append front (0 ∷ []))) (get_or_at front 0 [] 0 (length front) refl) (length-append front (0 ∷ []))
written_at front f (l ∷ ls) each =
    let next : List ℕ = front ++ label_octets l in
    let shape : front ++ name_octets (l ∷ ls) ≡ front ++ (length l ∷ (l ++ name_octets ls)) = ap (λ (t : List ℕ). front ++ (length l ∷ t)) (append_assoc l (octets_of ls) (0 ∷ [])) in
    let same : next ++ name_octets ls ≡ front ++ name_octets (l ∷ ls) = append_assoc front (label_octets l) (name_octets ls) ∙ sym shape in
    let size : length next ≡ length front + 1 + length l = omega (arith, length-append front (label_octets l)) in
    let P : List ℕ → ℕ → Type 0 = λ octets o. NameAt octets o f ls (length octets) in
    let there : NameAt (front ++ name_octets (l ∷ ls)) (length front + 1 + length l) f ls (length (front ++ name_octets (l ∷ ls))) = rw (← same, ← size) (written_at next f ls each.1) in
    label_at (front ++ name_octets (l ∷ ls)) front (name_octets ls) l f (length (front ++ name_octets (l ∷ ls))) ls each.0 shape there

record AllOf (len : ℕ) (r : Result (List (List ℕ) × ℕ) Fault) (labels : List (List ℕ)) : Type 0 where
  read : r ≡ Ok (labels, len)

all_of : (len : ℕ) (r : Result (List (List ℕ) × ℕ) Fault) (labels : List (List ℕ)) → name_if_all len r ≡ Some labels → AllOf len r labels
all_of len (Ok name) labels is = by_test (eqb name.1 len) (grind arith) is
  where
    by_test : (b : Bool) → (b ≡ true → name.1 ≡ len) → cond b (Some name.0) None ≡ Some labels → AllOf len (Ok name) labels
    by_test true same is = let first : name.0 ≡ labels = cc in record { read = ap (λ (x : ℕ). read_as name.0 x) (same refl) ∙ ap (λ (x : List (List ℕ)). read_as x len) first }
    by_test false same is = absurd cc
all_of len (Err f) labels is = absurd cc

pub named_sound : (octets : List ℕ) (labels : List (List ℕ)) → name_of_rdata octets ≡ Some labels → IsName labels × (octets ≡ name_octets labels)
unfolding name_of_rdata
named_sound octets labels is =
    let read = all_of (length octets) (name_at octets 0) labels is in
    let at = name_sound octets 0 labels (length octets) read.read in
    let whole = stands octets 0 0 (length octets) labels refl at.0 in
    (name_is octets 0 0 (length octets) labels at.0 at.1, whole ∙ ap (λ (t : List ℕ). name_octets labels ++ t) (drop_all (length octets) octets (omega arith)) ∙ append-nil (name_octets labels))

if_all : (labels : List (List ℕ)) (len : ℕ) → name_if_all len (Ok (labels, len)) ≡ Some labels
if_all labels len = grind arith

pub named_complete : (octets : List ℕ) (labels : List (List ℕ)) → IsName labels → octets ≡ name_octets labels → name_of_rdata octets ≡ Some labels
unfolding name_of_rdata
named_complete octets labels name is =
    let at : NameAt octets 0 0 labels (length octets) = rw is (written_at [] 0 labels name.each) in
    ap (name_if_all (length octets)) (name_complete octets 0 labels (length octets) at name.short) ∙ if_all labels (length octets)

-- octets of a single name, with a final zero octet
pub record OnlyName (octets : List ℕ) (end : ℕ) : Type 0 where
  pub some : 1 ≤ end
  pub laid : IsLaidOut (take (end - 1) octets)
  pub name : name_of_rdata octets ≡ Some (labels_of (take (end - 1) octets))

only_by : (octets : List ℕ) (end : ℕ) (r : Result (List (List ℕ) × ℕ) Fault) → name_at octets 0 ≡ r → end_read r ≡ Ok end → end ≡ length octets → OnlyName octets end
unfolding name_of_rdata
only_by octets end (Ok n) is ends all =
    let at : n.1 ≡ length octets = cc in
    let named : name_of_rdata octets ≡ Some n.0 = ap (name_if_all (length octets)) is ∙ ap (λ (e : ℕ). name_if_all (length octets) (Ok (n.0, e))) at ∙ if_all n.0 (length octets) in
    let name = named_sound octets n.0 named in
    let sized : length octets ≡ length (octets_of n.0) + 1 = ap length name.1 ∙ length-append (octets_of n.0) (0 ∷ []) in
    let front : take (end - 1) octets ≡ octets_of n.0 = ap (take (end - 1)) name.1 ∙ take_at (octets_of n.0) (0 ∷ []) (end - 1) (omega (arith, sized, all)) in
    record {
      some = omega (arith, sized, all);
      laid = rw front (octets_are_laid_out n.0 name.0);
      name = rw (front, labels_of_octets n.0) named;
    }
only_by octets end (Err fault) is ends all = absurd cc

pub only_name : (octets : List ℕ) (end : ℕ) → end_read (name_at octets 0) ≡ Ok end → end ≡ length octets → OnlyName octets end
only_name octets end ends all = only_by octets end (name_at octets 0) refl ends all

other_end : (labels : List (List ℕ)) (e len : ℕ) → (e ≡ len → ⊥) → name_if_all len (Ok (labels, e)) ≡ None
other_end labels e len other = grind (arith, other)

no_name_by : (octets : List ℕ) (r : Result (List (List ℕ) × ℕ) Fault) → name_at octets 0 ≡ r → (end_read r ≡ Ok (length octets) → ⊥) → name_of_rdata octets ≡ None
unfolding name_of_rdata
no_name_by octets (Ok n) is other = ap (name_if_all (length octets)) is ∙ other_end n.0 n.1 (length octets) (λ e. other (ap (λ (x : ℕ). Ok x) e))
no_name_by octets (Err fault) is other = ap (name_if_all (length octets)) is

pub no_name : (octets : List ℕ) → (end_read (name_at octets 0) ≡ Ok (length octets) → ⊥) → name_of_rdata octets ≡ None
no_name octets other = no_name_by octets (name_at octets 0) refl other
