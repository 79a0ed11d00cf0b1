-- The data of a record, part by part.
use Rattle.std.proofs.Common.{◌≡◌, ℕ, ◌+◌, ◌-◌, ◌<◌, ◌≤◌, true, false, List, [], ◌∷◌, ◌++◌, length, take, drop, get_or, Option, Some, None, Result, Ok, Err, refl, sym, ap, ◌∙◌, append_assoc, arith, eqb}
use Rattle.std.specs.Prelude.{is_some}
use Rattle.std.specs.Option.{option_map}
use Rattle.std.specs.List.{AllByRecursion}
use Rattle.std.proofs.lemmas.List.{length-append, length-take, length-drop, take-append-drop, drop-drop, drop_more, drop_all, take_at}
use Rattle.dns_name.specs.Labels.{labels_of, octets_of, IsLaidOut, IsLabel}
use Rattle.dns_name.proofs.CallerLemmas.{labels_of_octets, octets_are_laid_out}
use Rattle.dns_message.specs.declared.names.fault.Fault.{Fault}
use Rattle.dns_message.specs.declared.reading.shape.Part.{Part}
use Rattle.dns_message.specs.declared.reading.shape.Part.TheVariants.{Name}
use Rattle.dns_message.specs.Reading.{end_read}
use Rattle.dns_message.specs.Names.{NameAt, at_root, at_label, at_pointer, name_within, inside}
use Rattle.dns_message.proofs.names.NameLaws.{within_sound}
use Rattle.dns_message.specs.Fields.{Field, first_field, fields_of}
use Rattle.dns_message.specs.Writing.{Writing, as_is, ◌▹◌, each, field_text, by_fields}
use Rattle.dns_message.specs.Writer.{field_in, IsFirst}

-- ---- a name without a pointer at its end

-- a name without a pointer is laid out in full
pub record InFull (bytes : List ℕ) (o e : ℕ) (ls : List (List ℕ)) : Type 0 where
  pub octets : drop o bytes ≡ octets_of ls ++ (0 ∷ drop e bytes)
  pub each : AllByRecursion IsLabel ls

pub in_full : (bytes : List ℕ) (o f e : ℕ) (ls : List (List ℕ)) → f ≡ 0 → NameAt bytes o f ls e → InFull bytes o e ls
in_full bytes o f e [] none (at_root inside zero_ here) = record { octets = rw (here, ← zero_) (drop_more bytes o 0 inside); each = tt }
in_full bytes o f e (l ∷ ls) none (at_label some short inside l_is rest) =
    let len : ℕ = get_or bytes o 0 in
    let more = in_full bytes (o + 1 + len) f e ls none rest in
    let size : length l ≡ len = omega (arith, ap length l_is, length-take len (drop (o + 1) bytes), length-drop (o + 1) bytes) in
    let tail : drop (o + 1) bytes ≡ l ++ (octets_of ls ++ (0 ∷ drop e bytes)) =
    sym (take-append-drop len (drop (o + 1) bytes)) ∙ rw (← l_is, drop-drop len (o + 1) bytes) (ap (λ (x : List ℕ). l ++ x) more.octets) in
    record {
      octets = drop_more bytes o 0 (omega arith) ∙ rw (← size, tail, append_assoc l (octets_of ls) (0 ∷ drop e bytes)) refl;
      each = (record { some = omega (arith, size); short = omega (arith, size) }, more.each);
    }
in_full bytes o f e ls none (at_pointer high inside back rest here) = absurd (omega arith)

-- the name in front of octets
pub record InFront (xs : List ℕ) (e : ℕ) : Type 0 where
  pub fits : e ≤ length xs
  pub some : 1 ≤ e
  pub laid : IsLaidOut (take (e - 1) xs)
  pub is : name_within xs (inside (length xs)) 0 ≡ Ok (labels_of (take (e - 1) xs), e)

abbrev read_as : List (List ℕ) → ℕ → Result (List (List ℕ) × ℕ) Fault
read_as ls e = Ok (ls, e)

pub in_front : (xs : List ℕ) (e : ℕ) → Ok e ≡ end_read (name_within xs (inside (length xs)) 0) → InFront xs e
in_front xs e is = front_by (name_within xs (inside (length xs)) 0) refl is
  where
    front_by : (r : Result (List (List ℕ) × ℕ) Fault) → name_within xs (inside (length xs)) 0 ≡ r → Ok e ≡ end_read r → InFront xs e
    front_by (Err fault) read ends = absurd cc
    front_by (Ok n) read ends =
        let e_is : e ≡ n.1 = cc in
        let sound = within_sound xs (inside (length xs)) 0 n.0 n.1 (omega arith) read in
        let full = in_full xs 0 0 n.1 n.0 refl sound.0 in
        let whole : xs ≡ octets_of n.0 ++ (0 ∷ drop n.1 xs) = full.octets in
        let size : length xs ≡ length (octets_of n.0) + (1 + (length xs - n.1)) = omega (arith, ap length whole, length-append (octets_of n.0) (0 ∷ drop n.1 xs), length-drop n.1 xs) in
        let long : length (octets_of n.0) ≡ e - 1 = omega (arith, size, sound.2, e_is) in
        let front : take (e - 1) xs ≡ octets_of n.0 = ap (take (e - 1)) whole ∙ take_at (octets_of n.0) (0 ∷ drop n.1 xs) (e - 1) long in
        let labels : labels_of (take (e - 1) xs) ≡ n.0 = ap labels_of front ∙ labels_of_octets n.0 in
        record {
          fits = omega (arith, sound.2, e_is);
          some = omega (arith, size, sound.2, e_is);
          laid = rw front (octets_are_laid_out n.0 (record { each = full.each; short = sound.1 }));
          is = read ∙ rw (labels, e_is) refl;
        }

pub name_first : (xs : List ℕ) (e : ℕ) → InFront xs e → IsFirst Name xs (take (e - 1) xs) (drop e xs)
unfolding first_field
name_first xs e front = record { is = rw front.is refl; laid = λ same. front.laid }

-- ---- a part after another

is_some_map : (f : Field) (o : Option (List Field)) → is_some (option_map (λ fields. f ∷ fields) o) ≡ is_some o
is_some_map f None = refl
is_some_map f (Some fields) = refl

pub more_parts : (part : Part) (parts : List Part) (xs first rest : List ℕ) → IsFirst part xs first rest → is_some (fields_of (part ∷ parts) xs) ≡ is_some (fields_of parts rest)
unfolding fields_of
more_parts part parts xs first rest h = rw h.is (is_some_map (field_in part first) (fields_of parts rest))

pub no_part : (part : Part) (parts : List Part) (xs : List ℕ) → first_field part xs ≡ None → is_some (fields_of (part ∷ parts) xs) ≡ false
unfolding fields_of
no_part part parts xs none = rw none refl

pub all_parts : (xs : List ℕ) → is_some (fields_of [] xs) ≡ eqb (length xs) 0
unfolding fields_of
all_parts [] = refl
all_parts (x ∷ xs) = grind arith

-- the writing of octets by their parts
abbrev pub parts_text : List Part → List ℕ → Writing
parts_text parts xs = by_fields (fields_of parts xs) xs

pub part_left : (part : Part) (parts : List Part) (xs first rest : List ℕ) → IsFirst part xs first rest → is_some (fields_of (part ∷ parts) xs) ≡ true
    → parts_text (part ∷ parts) xs ≡ (field_text (field_in part first) ▹ parts_text parts rest)
unfolding fields_of each
part_left part parts xs first rest h some = rw h.is (left_by (fields_of parts rest) (sym (is_some_map (field_in part first) (fields_of parts rest)) ∙ rw h.is at some))
  where
    left_by : (o : Option (List Field)) → is_some o ≡ true → by_fields (option_map (λ fields. field_in part first ∷ fields) o) xs ≡ (field_text (field_in part first) ▹ by_fields o rest)
    left_by None is = absurd cc
    left_by (Some fields) is = refl

pub parts_done : (xs : List ℕ) → is_some (fields_of [] xs) ≡ true → parts_text [] xs ≡ as_is []
unfolding fields_of each
parts_done [] some = refl
parts_done (x ∷ xs) some = absurd cc

-- ---- the parts from i on

pub more_at : (parts : List Part) (i : ℕ) (d : Part) (xs first rest : List ℕ) → i < length parts → IsFirst (get_or parts i d) xs first rest
    → is_some (fields_of (drop i parts) xs) ≡ is_some (fields_of (drop (i + 1) parts) rest)
more_at parts i d xs first rest lt h = rw (drop_more parts i d lt) (more_parts (get_or parts i d) (drop (i + 1) parts) xs first rest h)

pub none_at : (parts : List Part) (i : ℕ) (d : Part) (xs : List ℕ) → i < length parts → first_field (get_or parts i d) xs ≡ None → is_some (fields_of (drop i parts) xs) ≡ false
none_at parts i d xs lt none = rw (drop_more parts i d lt) (no_part (get_or parts i d) (drop (i + 1) parts) xs none)

pub left_at : (parts : List Part) (i : ℕ) (d : Part) (xs first rest : List ℕ) → i < length parts → IsFirst (get_or parts i d) xs first rest → is_some (fields_of (drop i parts) xs) ≡ true
    → parts_text (drop i parts) xs ≡ (field_text (field_in (get_or parts i d) first) ▹ parts_text (drop (i + 1) parts) rest)
left_at parts i d xs first rest lt h some =
    let at : is_some (fields_of (get_or parts i d ∷ drop (i + 1) parts) xs) ≡ true = rw (drop_more parts i d lt) at some in
    rw (drop_more parts i d lt) (part_left (get_or parts i d) (drop (i + 1) parts) xs first rest h at)

pub done_at : (parts : List Part) (i : ℕ) (xs : List ℕ) → length parts ≤ i → is_some (fields_of (drop i parts) xs) ≡ eqb (length xs) 0
done_at parts i xs le = rw (drop_all i parts le) (all_parts xs)

pub nothing_at : (parts : List Part) (i : ℕ) (xs : List ℕ) → length parts ≤ i → is_some (fields_of (drop i parts) xs) ≡ true → parts_text (drop i parts) xs ≡ as_is []
nothing_at parts i xs le some =
    let at : is_some (fields_of [] xs) ≡ true = rw (drop_all i parts le) at some in
    rw (drop_all i parts le) (parts_done xs at)
