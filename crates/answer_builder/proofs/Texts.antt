-- The octets written within a limit, and the octets sent.
use Rattle.std.proofs.Common.{◌≡◌, ℕ, ◌<◌, ◌≤◌, List, [], ◌∷◌, length, Bool, true, false, cond, refl, sym, ap, subst, ◌∙◌, ⊎_elim, arith, Option, Some, None}
use Rattle.std.specs.Prelude.{nat_lt, nat_le, Result, Ok, Err}
use Rattle.std.proofs.lemmas.Bool.{cases_Bool, cond-true, cond-false, ltb-false, ltb-true, le-leb, leb-true}
use Rattle.dns_message.specs.declared.names.fault.Fault.{Fault}
use Rattle.dns_message.specs.declared.names.fault.Fault.TheVariants.{TooLarge}
use Rattle.dns_message.specs.Values.{Question, Record, Message}
use Rattle.dns_message.specs.Writing.{written, written_within}
use Rattle.answer_builder.specs.declared.fault.Fault.{Fault as AnswerFault}
use Rattle.answer_builder.specs.declared.fault.Fault.TheVariants as answer
use Rattle.answer_builder.specs.Values.{Asked, Sections}
use Rattle.dns_message.specs.declared.reading.header.Header.{Header}
use Rattle.dns_message.specs.Borrowed.{questions_of, records_in, message_of}
use Rattle.answer_builder.specs.Answers.{answer_header, answer_message, bare, error_response}
use Rattle.answer_builder.specs.Building.{cut_down, fitting}
use Rattle.answer_builder.specs.Faults.{Gives}
use Rattle.answer_builder.specs.Transports.{sent_over, text_of}
use Rattle.answer_builder.specs.declared.asked.Transport.{Transport}

-- ---- texts that fit

not_leb : (a b : ℕ) → b < a → nat_le a b ≡ false
not_leb a b h = ⊎_elim (λ (t : nat_le a b ≡ true). let l : a ≤ b = leb-true a b t in absurd (omega (arith, h, l))) (λ (f : nat_le a b ≡ false). f) (cases_Bool (nat_le a b))

fits : (limit : ℕ) (text : List ℕ) → length text ≤ limit → fitting limit text ≡ Some text
fits limit text h = cond-true (nat_le (length text) limit) _ _ (le-leb (length text) limit h)

fits_not : (limit : ℕ) (text : List ℕ) → limit < length text → fitting limit text ≡ None
fits_not limit text h = cond-false (nat_le (length text) limit) _ _ (not_leb (length text) limit h)

-- a text written within a limit fits
pub written_fits : (limit : ℕ) (m : Message) (text : List ℕ) → written_within limit m ≡ Ok text → Some text ≡ fitting limit (written m)
unfolding written_within
written_fits limit m text e = ⊎_elim
    (λ (t : nat_lt limit (length (written m)) ≡ true). let bad : Err TooLarge ≡ Ok text = sym (cond-true (nat_lt limit (length (written m))) _ _ t) ∙ e in absurd (cc))
    (λ (f : nat_lt limit (length (written m)) ≡ false).
    let is : Ok (written m) ≡ Ok text = sym (cond-false (nat_lt limit (length (written m))) _ _ f) ∙ e in
    let same : text ≡ written m = cc in
    ap (λ (xs : List ℕ). Some xs) same ∙ sym (fits limit (written m) (ltb-false limit (length (written m)) f)))
    (cases_Bool (nat_lt limit (length (written m))))

-- a refused text does not fit
pub refused_fits_not : (limit : ℕ) (m : Message) (fault : Fault) → written_within limit m ≡ Err fault → None ≡ fitting limit (written m)
unfolding written_within
refused_fits_not limit m fault e = ⊎_elim
    (λ (t : nat_lt limit (length (written m)) ≡ true). sym (fits_not limit (written m) (ltb-true limit (length (written m)) t)))
    (λ (f : nat_lt limit (length (written m)) ≡ false). let bad : Ok (written m) ≡ Err fault = sym (cond-false (nat_lt limit (length (written m))) _ _ f) ∙ e in absurd (cc))
    (cases_Bool (nat_lt limit (length (written m))))

-- ---- the text has the lists' counts, whatever the header says

-- an answer, as put together
abbrev pub made : Asked → Bool → Sections → Message
made a cut s = record { header = answer_header a cut s.rcode (0 ∷ 0 ∷ 0 ∷ 0 ∷ []); questions = questions_of a.question; answers = s.answers; authority = s.authority; additional = [] }

made_counts : (a : Asked) (cut : Bool) (s : Sections) → written (made a cut s) ≡ written (answer_message a cut s)
unfolding written
made_counts a cut s = refl

-- a message with this header and the question alone
pub bare_text : (a : Asked) (rcode : ℕ) (header : Header) (question : Option Question) → header ≡ answer_header a false rcode (0 ∷ 0 ∷ 0 ∷ 0 ∷ []) → question ≡ a.question
    → written (message_of header question [] []) ≡ written (error_response a rcode)
bare_text a rcode header question is same = (λ i. written (message_of (is i) (same i) [] [])) ∙ made_counts a false (bare rcode)

-- the octets sent for a message with this header, question, records and authority section
pub sent_text : (a : Asked) (s : Sections) (transport : Transport) (header : Header) (question : Option Question) (sets authority : List (List Record))
    → header ≡ answer_header a false s.rcode (0 ∷ 0 ∷ 0 ∷ 0 ∷ []) → question ≡ a.question → records_in sets ≡ s.answers → records_in authority ≡ s.authority
    → sent_over transport (written (message_of header question sets authority)) (written (cut_down (message_of header question sets authority))) ≡ text_of a s transport
sent_text a s transport header question sets authority is same answers last =
    (λ i. sent_over transport (written (made_of i)) (written (cut_down (made_of i)))) ∙ (λ i. sent_over transport (made_counts a false s i) (made_counts a true (bare s.rcode) i))
  where
    made_of : message_of header question sets authority ≡ made a false s
    made_of = λ i. record { header = is i; questions = questions_of (same i); answers = answers i; authority = last i; additional = [] }

-- ---- the octets sent

picked : (b : Bool) (full text : List ℕ) → Some text ≡ cond b (Some full) None → (b ≡ true) × (text ≡ full)
picked true full text e = (refl, cc)
picked false full text e = absurd (cc)

left_out : (b : Bool) (full : List ℕ) → None ≡ cond b (Some full) None → b ≡ false
left_out true full e = absurd (cc)
left_out false full e = refl

pub whole_sent : (limit : ℕ) (full cut text : List ℕ) → Some text ≡ fitting limit full → text ≡ cond (nat_le (length full) limit) full cut
whole_sent limit full cut text e =
    let p = picked (nat_le (length full) limit) full text e in
    p.1 ∙ sym (cond-true (nat_le (length full) limit) full cut p.0)

pub cut_sent : (limit : ℕ) (full cut text : List ℕ) → None ≡ fitting limit full → text ≡ cut → text ≡ cond (nat_le (length full) limit) full cut
cut_sent limit full cut text e same = same ∙ sym (cond-false (nat_le (length full) limit) full cut (left_out (nat_le (length full) limit) full e))

abbrev or_too_large : ℕ → List ℕ → Result (List ℕ) AnswerFault
or_too_large limit full = cond (nat_le (length full) limit) (Ok full) (Err answer.TooLarge)

pub whole_given : (limit : ℕ) (full text : List ℕ) → Some text ≡ fitting limit full → or_too_large limit full ≡ Ok text
whole_given limit full text e =
    let p = picked (nat_le (length full) limit) full text e in
    cond-true (nat_le (length full) limit) (Ok full) (Err answer.TooLarge) p.0 ∙ ap (λ (xs : List ℕ). Ok xs) (sym p.1)

pub too_large : (limit : ℕ) (full : List ℕ) → None ≡ fitting limit full → or_too_large limit full ≡ Err answer.TooLarge
too_large limit full e = cond-false (nat_le (length full) limit) (Ok full) (Err answer.TooLarge) (left_out (nat_le (length full) limit) full e)

pub gives_as : {X Y : Type 0} (view : X → Y) (given : Result X AnswerFault) (a b : Result Y AnswerFault) → a ≡ b → Gives view given a → Gives view given b
gives_as view given a b same gives = subst (Gives view given) same gives
