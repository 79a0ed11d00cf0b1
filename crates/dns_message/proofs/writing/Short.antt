-- A message with at most a question, and without records, is short.
use Rattle.std.proofs.Common.{ℕ, ◌+◌, ◌≤◌, List, [], ◌∷◌, ◌++◌, length, arith, Option, Some, None}
use Rattle.std.specs.Option.{IfSome}
use Rattle.std.proofs.lemmas.List.{length-append}
use Rattle.dns_name.specs.Labels.{size_of, IsName}
use Rattle.dns_message.specs.declared.reading.header.Header.{Header}
use Rattle.dns_message.specs.Values.{Question, Message}
use Rattle.dns_message.specs.Borrowed.{message_of}
use Rattle.dns_message.specs.Writing.{Place, Writing, as_is, ◌▹◌, each, octets16, pointer_or, label_text, name_text, question_text, record_text, header_text, written, place_of}

-- written at any place, at most `most` octets
abbrev Short : ℕ → Writing → Type 0
Short most w = (places : List Place) (o : ℕ) → length (w places o).octets ≤ most

short_as_is : (xs : List ℕ) → Short (length xs) (as_is xs)
short_as_is xs places o = omega arith

short_both : (m n : ℕ) (v w : Writing) → Short m v → Short n w → Short (m + n) (v ▹ w)
unfolding ◌▹◌
short_both m n v w first second places o =
    let t = v places o in
    let u = w (places ++ t.places) (o + length t.octets) in
    let a : length t.octets ≤ m = first places o in
    let b : length u.octets ≤ n = second (places ++ t.places) (o + length t.octets) in
    let both = length-append t.octets u.octets in
    omega (arith, a, b, both)

some_octets : (name : List (List ℕ)) → 1 ≤ size_of name
some_octets [] = omega arith
some_octets (l ∷ ls) = omega arith

label_short : (label : List ℕ) (rest : List (List ℕ)) → Short (size_of rest) (name_text rest) → (places : List Place) (o : ℕ) (r : Option ℕ)
    → length (pointer_or r (label_text label rest ▹ name_text rest) places o).octets ≤ size_of (label ∷ rest)
label_short label rest short places o (Some offset) = let some = some_octets rest in omega (arith, some)
label_short label rest short places o None =
    let all = short_both (length label + 1) (size_of rest) (label_text label rest) (name_text rest) (λ ps p. omega arith) short places o in omega (arith, all)

-- a name takes no more than its labels
name_short : (name : List (List ℕ)) → Short (size_of name) (name_text name)
unfolding name_text
name_short [] places o = omega arith
name_short (label ∷ rest) places o = label_short label rest (name_short rest) places o (place_of places (label ∷ rest))

question_short : (q : Question) → Short (size_of q.name + 2 + 2) (question_text q)
question_short q =
    short_both (size_of q.name + 2) 2 _ (as_is (octets16 q.class))
    (short_both (size_of q.name) 2 (name_text q.name) (as_is (octets16 q.kind)) (name_short q.name) (λ ps p. omega arith))
    (λ ps p. omega arith)

header_short : (m : Message) → Short 12 (header_text m)
header_short m =
    short_both 10 2 _ _
    (short_both 8 2 _ _ (short_both 6 2 _ _ (short_both 4 2 _ _ (short_both 2 2 _ _ (λ ps p. omega arith) (λ ps p. omega arith)) (λ ps p. omega arith)) (λ ps p. omega arith)) (λ ps p. omega arith))
    (λ ps p. omega arith)

none_short : {X : Type 0} (w : X → Writing) → Short 0 (each w [])
unfolding each
none_short w places o = omega arith

one_short : {X : Type 0} (n : ℕ) (w : X → Writing) (x : X) → Short n (w x) → Short (n + 0) (each w (x ∷ []))
unfolding each
one_short n w x short = short_both n 0 (w x) (each w []) short (none_short w)

asking_short : (header : Header) (question : Option Question) (n : ℕ) → Short n (each question_text (message_of header question [] []).questions) → length (written (message_of header question [] [])) ≤ 12 + n
unfolding written
asking_short header question n short =
    let m : Message = message_of header question [] [] in
    let asked : Writing = header_text m ▹ each question_text m.questions in
    let one = short_both 12 n (header_text m) (each question_text m.questions) (header_short m) short in
    let two = short_both (12 + n) 0 asked (each record_text []) one (none_short record_text) in
    let three = short_both (12 + n + 0) 0 (asked ▹ each record_text []) (each record_text []) two (none_short record_text) in
    let four = short_both (12 + n + 0 + 0) 0 (asked ▹ each record_text [] ▹ each record_text []) (each record_text []) three (none_short record_text) [] 0 in
    omega (arith, four)

-- 12 octets of a header, 255 of a name, 4 of a question's type and class
pub bare_message_is_short : (header : Header) (question : Option Question) → IfSome question (λ q. IsName q.name) → length (written (message_of header question [] [])) ≤ 271
bare_message_is_short header None named = let short = asking_short header None 0 (none_short question_text) in omega (arith, short)
bare_message_is_short header (Some q) named =
    let short = asking_short header (Some q) (size_of q.name + 2 + 2 + 0) (one_short (size_of q.name + 2 + 2) question_text q (question_short q)) in
    let small = named.short in
    omega (arith, short, small)
