-- A name in front of octets, without pointers, label by label.
use Rattle.std.proofs.Common.{◌≡◌, ℕ, ◌+◌, ◌<◌, ◌≤◌, List, [], ◌∷◌, length, take, drop, get_or, None, Result, Ok, Err, refl, ap, arith}
use Rattle.std.proofs.lemmas.List.{length-take, length-drop}
use Rattle.dns_name.specs.Labels.{size_of}
use Rattle.dns_name.proofs.CallerLemmas.{size_at_least_one}
use Rattle.dns_message.specs.declared.names.fault.Fault.{Fault}
use Rattle.dns_message.specs.Reading.{end_read}
use Rattle.dns_message.specs.Names.{NameAt, at_root, at_label, at_pointer, name_within, inside}
use Rattle.dns_message.proofs.names.NameLaws.{within_sound, within_complete}
use Rattle.dns_message.specs.declared.reading.shape.Part.TheVariants.{Name}
use Rattle.dns_message.specs.Fields.{first_field}

-- labels from o up to e that fit after the labels before
pub record Fits (xs : List ℕ) (o e : ℕ) : Type 0 where
  pub labels : List (List ℕ)
  pub at : NameAt xs o 0 labels e
  pub short : o + size_of labels ≤ 255

-- the name in front goes on at o, after its first labels
pub record GoesBy (xs : List ℕ) (o : ℕ) : Type 0 where
  pub back : (e : ℕ) → Fits xs o e → Fits xs 0 e
  pub on : (e : ℕ) → Fits xs 0 e → Fits xs o e

pub goes_from : (xs : List ℕ) → GoesBy xs 0
goes_from xs = record { back = λ e fits. fits; on = λ e fits. fits }

begins_inside : (xs : List ℕ) (o f e : ℕ) (ls : List (List ℕ)) → NameAt xs o f ls e → o < length xs
begins_inside xs o f e [] (at_root inside none here) = inside
begins_inside xs o f e (l ∷ ls) (at_label some short inside l_is rest) = omega arith
begins_inside xs o f e ls (at_pointer high inside back rest here) = omega arith

label_size : (xs l : List ℕ) (o len : ℕ) → o + 1 + len ≤ length xs → l ≡ take len (drop (o + 1) xs) → length l ≡ len
label_size xs l o len inside is = omega (arith, ap length is, length-take len (drop (o + 1) xs), length-drop (o + 1) xs)

-- a label is at o
pub label_goes : (xs : List ℕ) (o p : ℕ) → 0 < get_or xs o 0 → get_or xs o 0 ≤ 63 → p ≡ o + (get_or xs o 0 + 1) → GoesBy xs o → GoesBy xs p
label_goes xs o p some short next so_far = record { back = λ e fits. so_far.back e (longer e fits); on = λ e fits. shorter e (so_far.on e fits) }
  where
    longer : (e : ℕ) → Fits xs p e → Fits xs o e
    longer e fits =
        let len : ℕ = get_or xs o 0 in
        let at_next : p ≡ o + 1 + len = omega (arith, next) in
        let rest : NameAt xs (o + 1 + len) 0 fits.labels e = rw at_next at fits.at in
        let inside_ : o + 1 + len < length xs = begins_inside xs (o + 1 + len) 0 e fits.labels rest in
        let label : List ℕ = take len (drop (o + 1) xs) in
        let size = label_size xs label o len (omega (arith, inside_)) refl in
        let fit = fits.short in
        record { labels = label ∷ fits.labels; at = at_label some (omega (arith, short)) (omega (arith, inside_)) refl rest; short = omega (arith, size, fit, next) }

    shorter_by : (e : ℕ) (ls : List (List ℕ)) → NameAt xs o 0 ls e → o + size_of ls ≤ 255 → Fits xs p e
    shorter_by e [] (at_root inside none here) fit = absurd (omega (arith, none, some))
    shorter_by e (l ∷ ls) (at_label some_ short_ inside l_is rest) fit =
        let at_next : o + 1 + get_or xs o 0 ≡ p = omega (arith, next) in
        let size = label_size xs l o (get_or xs o 0) inside l_is in
        record { labels = ls; at = rw at_next at rest; short = omega (arith, size, fit, next) }
    shorter_by e ls (at_pointer high inside back rest here) fit = absurd (omega arith)

    shorter : (e : ℕ) → Fits xs o e → Fits xs p e
    shorter e fits = shorter_by e fits.labels fits.at fits.short

-- the zero octet is at o
pub ends_at : (xs : List ℕ) (o : ℕ) → o < length xs → o < 255 → get_or xs o 0 ≡ 0 → GoesBy xs o → Ok (o + 1) ≡ end_read (name_within xs (inside (length xs)) 0)
ends_at xs o in_ short none so_far =
    let whole = so_far.back (o + 1) (record { labels = []; at = at_root in_ none refl; short = omega (arith, short) }) in
    let fit = whole.short in
    rw (within_complete xs (inside (length xs)) 0 whole.labels (o + 1) whole.at (omega (arith, fit)) (omega (arith, in_))) refl

-- if no name ends or goes on at o, there is none
pub no_name : (xs : List ℕ) (o : ℕ) → ((e : ℕ) → Fits xs o e → ⊥) → GoesBy xs o → first_field Name xs ≡ None
unfolding first_field
no_name xs o nothing so_far = none_by (name_within xs (inside (length xs)) 0) refl
  where
    none_by : (r : Result (List (List ℕ) × ℕ) Fault) → name_within xs (inside (length xs)) 0 ≡ r → first_field Name xs ≡ None
    none_by (Err fault) read = rw read refl
    none_by (Ok n) read =
        let sound = within_sound xs (inside (length xs)) 0 n.0 n.1 (omega arith) read in
        absurd (nothing n.1 (so_far.on n.1 (record { labels = n.0; at = sound.0; short = omega (arith, sound.1) })))

pub none_beyond : (xs : List ℕ) (o : ℕ) → (o < length xs → o < 255 → ⊥) → (e : ℕ) → Fits xs o e → ⊥
none_beyond xs o beyond e fits =
    let in_ = begins_inside xs o 0 e fits.labels fits.at in
    let fit = fits.short in
    beyond in_ (omega (arith, fit, size_at_least_one fits.labels))

pub none_long : (xs : List ℕ) (o : ℕ) → 63 < get_or xs o 0 → (e : ℕ) → Fits xs o e → ⊥
none_long xs o long e fits = long_by fits.labels fits.at
  where
    long_by : (ls : List (List ℕ)) → NameAt xs o 0 ls e → ⊥
    long_by [] (at_root inside none here) = omega (arith, none, long)
    long_by (l ∷ ls) (at_label some short inside l_is rest) = omega (arith, short, long)
    long_by ls (at_pointer high inside back rest here) = omega arith
