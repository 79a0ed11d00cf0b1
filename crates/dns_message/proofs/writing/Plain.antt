-- Parts with names, and parts without.
use Rattle.std.proofs.Common.{◌≡◌, ℕ, ◌+◌, ◌-◌, ◌<◌, ◌≤◌, Bool, true, false, List, [], ◌∷◌, ◌++◌, length, take, drop, get_or, eqb, Some, None, Result, Ok, Err, refl, sym, ap, ◌∙◌, arith}
use Rattle.std.specs.Prelude.{is_some, nat_lt}
use Rattle.std.proofs.lemmas.Bool.Decides.{Decides-eqb, nat_tests}
use Rattle.std.proofs.lemmas.List.{take-append-drop, drop_more, drop_all, length-drop}
use Rattle.dns_message.specs.declared.names.fault.Fault.{Fault}
use Rattle.dns_message.specs.Names.{name_within, inside}
use Rattle.dns_message.specs.Reading.{end_read}
use Rattle.dns_message.specs.declared.reading.shape.Part.{Part}
use Rattle.dns_message.specs.declared.reading.shape.Part.TheVariants.{Name, Number16, SoaNumbers, Text}
use Rattle.dns_message.specs.Fields.{plain, first_field, first_octets, fields_of, has_name, size_of_parts}
use Rattle.dns_message.specs.Writing.{as_is, ◌▹◌, field_text}
use Rattle.dns_message.specs.Writer.{field_in, IsFirst}
use Rattle.dns_message.proofs.writing.WriterFields.{InFront, in_front, name_first, parts_text, all_parts, more_parts, no_part, part_left, parts_done}

-- ---- the place of a name

pub here : (parts : List Part) (i : ℕ) (d : Part) → i < length parts → get_or parts i d ≡ Name → has_name (drop i parts) ≡ true
unfolding has_name
here parts i d lt is = rw (drop_more parts i d lt, is) refl

not_first : (part : Part) (parts : List Part) → (part ≡ Name → ⊥) → has_name (part ∷ parts) ≡ has_name parts
unfolding has_name
not_first Name parts free = absurd (free refl)
not_first Number16 parts free = refl
not_first SoaNumbers parts free = refl
not_first Text parts free = refl

pub not_here : (parts : List Part) (i : ℕ) (d : Part) → i < length parts → (get_or parts i d ≡ Name → ⊥) → has_name (drop i parts) ≡ has_name (drop (i + 1) parts)
not_here parts i d lt free = rw (drop_more parts i d lt) (not_first (get_or parts i d) (drop (i + 1) parts) free)

pub none_left : (parts : List Part) (i : ℕ) → length parts ≤ i → has_name (drop i parts) ≡ false
unfolding has_name
none_left parts i le = rw (drop_all i parts le) refl

pub none_of_none : (parts : List Part) → length parts ≡ 0 → true ≡ has_name parts → ⊥
unfolding has_name
none_of_none [] none has = absurd cc
none_of_none (part ∷ parts) none has = absurd (omega (arith, none))

-- ---- the first part and the rest

pub none_first : (left others : List Part) (part : Part) (xs : List ℕ) → left ≡ part ∷ others → first_field part xs ≡ None → is_some (fields_of left xs) ≡ true → ⊥
none_first left others part xs split none some =
    let is : is_some (fields_of (part ∷ others) xs) ≡ true = rw split at some in
    let not : is_some (fields_of (part ∷ others) xs) ≡ false = no_part part others xs none in
    absurd cc

pub more_first : (left others : List Part) (part : Part) (xs first behind : List ℕ) → left ≡ part ∷ others → IsFirst part xs first behind → is_some (fields_of left xs) ≡ is_some (fields_of others behind)
more_first left others part xs first behind split h = rw split (more_parts part others xs first behind h)

pub left_first : (left others : List Part) (part : Part) (xs first behind : List ℕ) → left ≡ part ∷ others → IsFirst part xs first behind → is_some (fields_of left xs) ≡ true
    → parts_text left xs ≡ (field_text (field_in part first) ▹ parts_text others behind)
left_first left others part xs first behind split h some =
    let is : is_some (fields_of (part ∷ others) xs) ≡ true = rw split at some in
    rw split (part_left part others xs first behind h is)

-- ---- octets without a name are unchanged

both_as_is : (xs ys : List ℕ) → (as_is xs ▹ as_is ys) ≡ as_is (xs ++ ys)
unfolding ◌▹◌
both_as_is xs ys = refl

octets_first : (part : Part) (n : ℕ) (others : List Part) (xs : List ℕ) → first_field part xs ≡ first_octets n xs → ((first : List ℕ) → field_in part first ≡ plain first) → (part ≡ Name → ⊥)
    → ((ys : List ℕ) → is_some (fields_of others ys) ≡ true → parts_text others ys ≡ as_is ys) → is_some (fields_of (part ∷ others) xs) ≡ true → parts_text (part ∷ others) xs ≡ as_is xs
octets_first part n others xs is is_plain free rest some = by_test (nat_lt (length xs) n) refl
  where
    by_test : (short : Bool) → nat_lt (length xs) n ≡ short → parts_text (part ∷ others) xs ≡ as_is xs
    by_test true short =
        let none : first_field part xs ≡ None = is ∙ rw short refl in
        let not : is_some (fields_of (part ∷ others) xs) ≡ false = no_part part others xs none in
        absurd cc
    by_test false long =
        let h : IsFirst part xs (take n xs) (drop n xs) = record { is = is ∙ rw (long, is_plain (take n xs)) refl; laid = λ same. absurd (free same) } in
        let behind : parts_text others (drop n xs) ≡ as_is (drop n xs) = rest (drop n xs) (sym (more_parts part others xs (take n xs) (drop n xs) h) ∙ some) in
        part_left part others xs (take n xs) (drop n xs) h some
        ∙ rw (is_plain (take n xs), behind) (both_as_is (take n xs) (drop n xs))
        ∙ ap as_is (take-append-drop n xs)

nothing_left : (x : ℕ) (xs : List ℕ) → is_some (fields_of [] (x ∷ xs)) ≡ true → ⊥
unfolding fields_of
nothing_left x xs some = absurd cc

no_text : (parts : List Part) → is_some (fields_of (Text ∷ parts) []) ≡ true → ⊥
unfolding first_field
no_text parts some =
    let not : is_some (fields_of (Text ∷ parts) []) ≡ false = no_part Text parts [] refl in
    absurd cc

pub plain_text : (parts : List Part) (xs : List ℕ) → has_name parts ≡ false → is_some (fields_of parts xs) ≡ true → parts_text parts xs ≡ as_is xs
unfolding has_name first_field
plain_text [] [] free some = parts_done [] some
plain_text [] (x ∷ xs) free some = absurd (nothing_left x xs some)
plain_text (Name ∷ parts) xs free some = absurd cc
plain_text (Number16 ∷ parts) xs free some = octets_first Number16 2 parts xs refl (λ first. refl) (λ same. absurd cc) (λ ys. plain_text parts ys free) some
plain_text (SoaNumbers ∷ parts) xs free some = octets_first SoaNumbers 20 parts xs refl (λ first. refl) (λ same. absurd cc) (λ ys. plain_text parts ys free) some
plain_text (Text ∷ parts) [] free some = absurd (no_text parts some)
plain_text (Text ∷ parts) (len ∷ xs) free some = octets_first Text (len + 1) parts (len ∷ xs) refl (λ first. refl) (λ same. absurd cc) (λ ys. plain_text parts ys free) some

-- ---- the last name

enough : (a b : ℕ) → nat_lt a b ≡ false → b ≤ a
enough a b h = grind (arith, nat_tests)

-- parts of a fixed size take as many octets
pub parts_size : (parts : List Part) (size : ℕ) (xs : List ℕ) → size_of_parts parts ≡ Some size → is_some (fields_of parts xs) ≡ true → length xs ≡ size
unfolding size_of_parts first_field
parts_size [] size [] is some = cc
parts_size [] size (x ∷ xs) is some = absurd (nothing_left x xs some)
parts_size (Name ∷ parts) size xs is some = absurd cc
parts_size (Number16 ∷ parts) size xs is some = absurd cc
parts_size (Text ∷ parts) size xs is some = absurd cc
parts_size (SoaNumbers ∷ part ∷ parts) size xs is some = absurd cc
parts_size (SoaNumbers ∷ []) size xs is some = by_test (nat_lt (length xs) 20) refl
  where
    by_test : (short : Bool) → nat_lt (length xs) 20 ≡ short → length xs ≡ size
    by_test true short =
        let not : is_some (fields_of (SoaNumbers ∷ []) xs) ≡ false = no_part SoaNumbers [] xs (rw short refl) in
        absurd cc
    by_test false long =
        let h : IsFirst SoaNumbers xs (take 20 xs) (drop 20 xs) = record { is = rw long refl; laid = λ same. absurd cc } in
        let left : eqb (length (drop 20 xs)) 0 ≡ true = sym (all_parts (drop 20 xs)) ∙ sym (more_parts SoaNumbers [] xs (take 20 xs) (drop 20 xs) h) ∙ some in
        let none : length (drop 20 xs) ≡ 0 = (Decides-eqb (length (drop 20 xs)) 0).0 left in
        let twenty : 20 ≡ size = cc in
        omega (arith, none, length-drop 20 xs, enough (length xs) 20 long, twenty)

-- a name ends before the parts of fixed size after it
pub ends_before : (others : List Part) (size : ℕ) (xs : List ℕ) → size_of_parts others ≡ Some size → is_some (fields_of (Name ∷ others) xs) ≡ true
    → (size ≤ length xs) × (Ok (length xs - size) ≡ end_read (name_within xs (inside (length xs)) 0))
unfolding first_field
ends_before others size xs is some = ends_by (name_within xs (inside (length xs)) 0) refl
  where
    ends_by : (r : Result (List (List ℕ) × ℕ) Fault) → name_within xs (inside (length xs)) 0 ≡ r → (size ≤ length xs) × (Ok (length xs - size) ≡ end_read (name_within xs (inside (length xs)) 0))
    ends_by (Err fault) read =
        let not : is_some (fields_of (Name ∷ others) xs) ≡ false = no_part Name others xs (rw read refl) in
        absurd cc
    ends_by (Ok n) read =
        let front : InFront xs n.1 = in_front xs n.1 (rw read refl) in
        let left : length (drop n.1 xs) ≡ size = parts_size others size (drop n.1 xs) is (sym (more_parts Name others xs (take (n.1 - 1) xs) (drop n.1 xs) (name_first xs n.1 front)) ∙ some) in
        let fits = front.fits in
        let at : length xs - size ≡ n.1 = omega (arith, left, length-drop n.1 xs, fits) in
        (omega (arith, left, length-drop n.1 xs, fits), ap Ok at ∙ rw read refl)
