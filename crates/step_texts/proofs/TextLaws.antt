-- Texts kept by the spelling of their questions.
use Rattle.std.proofs.Common.{◌≡◌, ℕ, ◌<◌, List, [], ◌∷◌, ◌++◌, true, false, refl, sym, ap, ◌∙◌, subst, ⊎_elim, Option, Some}
use Rattle.std.specs.Prelude.{◌==◌, ◌&&◌, option_map}
use Rattle.std.specs.List.{AllByRecursion, find}
use Rattle.std.proofs.lemmas.Bool.{cases_Bool, cond-true, cond-false, and_parts, eqb-true}
use Rattle.dns_name.specs.Labels.{octets_of, labels_of}
use Rattle.dns_name.proofs.CallerLemmas.{labels_of_octets}
use Rattle.std.proofs.lemmas.Slice.Eq.{bytes_eq-Decides}
use Rattle.dns_message.specs.Values.{Question}
use Rattle.record_cache.specs.Values.{Held}
use Rattle.answer_builder.specs.declared.asked.Transport.{Transport}
use Rattle.answer_builder.specs.declared.asked.Transport.TheVariants.{Udp, Tcp}
use Rattle.answer_builder.specs.Transports.{answer_of}
use Rattle.answer_builder.specs.Values.{Asked}
use Rattle.step_texts.specs.declared.answers.Spelled.{Spelled}
use Rattle.step_texts.specs.Spelling.{same_spelling, are_alike, same_transport, is_for, ok_text, with_front, IsSpelled, AreSpelled}
use Rattle.step_texts.proofs.Fronts.{sent_alike}

-- ---- questions with equal spelling are equal

same_names : (a b : List (List ℕ)) → same_spelling a b ≡ true → a ≡ b
same_names a b e = sym (labels_of_octets a) ∙ ap labels_of ((bytes_eq-Decides (octets_of a) (octets_of b)).0 e) ∙ labels_of_octets b

alike_equal : (a b : Question) → are_alike a b ≡ true → a ≡ b
alike_equal a b e =
    let outer = and_parts (same_spelling a.name b.name && (a.kind == b.kind)) (a.class == b.class) e in
    let inner = and_parts (same_spelling a.name b.name) (a.kind == b.kind) outer.0 in
    λ i. record { name = same_names a.name b.name inner.0 i; kind = eqb-true a.kind b.kind inner.1 i; class = eqb-true a.class b.class outer.1 i }

transports_equal : (t u : Transport) → same_transport t u ≡ true → t ≡ u
transports_equal Udp Udp e = refl
transports_equal Udp Tcp e = absurd (cc)
transports_equal Tcp Udp e = absurd (cc)
transports_equal Tcp Tcp e = refl

-- the text is for this transport and question
record IsFor {A : Type 0} (t : Transport) (q : Question) (s : Spelled A) : Type 0 where
  transport : s.transport ≡ t
  question : s.question.now ≡ q

is_its : {A : Type 0} (t : Transport) (q : Question) (s : Spelled A) → is_for t q s ≡ true → IsFor t q s
is_its t q s e =
    let both = and_parts (same_transport s.transport t) (are_alike s.question.now q) e in
    record { transport = transports_equal s.transport t both.0; question = alike_equal s.question.now q both.1 }

-- a found text is for the question, and kept
record Found {A : Type 0} (chain : List Held) (n : ℕ) (t : Transport) (q : Question) (s : Spelled A) : Type 0 where
  its : IsFor t q s
  kept : IsSpelled chain n s

found_spelled : {A : Type 0} (chain : List Held) (n : ℕ) (t : Transport) (q : Question) (texts : List (Spelled A)) (s : Spelled A) → AllByRecursion (IsSpelled chain n) texts → find (is_for t q) texts ≡ Some s → Found chain n t q s
found_spelled chain n t q [] s all e = absurd (cc)
found_spelled {A = A} chain n t q (u ∷ us) s all e = ⊎_elim
    (λ (yes : is_for t q u ≡ true).
    let is : Some u ≡ Some s = sym (cond-true (is_for t q u) _ _ yes) ∙ e in
    let same : u ≡ s = cc in
    subst (λ (v : Spelled A). Found chain n t q v) same (record { its = is_its t q u yes; kept = all.0 }))
    (λ (no : is_for t q u ≡ false). found_spelled chain n t q us s all.1 (sym (cond-false (is_for t q u) _ _ no) ∙ e))
    (cases_Bool (is_for t q u))

-- ---- the text sent to a request, from a kept text

pub found_text : {A : Type 0} (chain : List Held) (n : ℕ) (t : Transport) (a : Asked) (q : Question) (texts slice : List (Spelled A)) (s : Spelled A) → a.opcode < 16 → a.question ≡ Some q
    → AllByRecursion (IsSpelled chain n) texts → slice ≡ texts → find (is_for t q) slice ≡ Some s → option_map (with_front a) s.text ≡ ok_text (answer_of a chain n t)
found_text chain n t a q texts slice s small asked all same e =
    let found = found_spelled chain n t q slice s (subst (AllByRecursion (IsSpelled chain n)) (sym same) all) e in
    found.kept a small (asked ∙ ap (λ (x : Question). Some x) (sym found.its.question)) ∙ ap (λ (u : Transport). ok_text (answer_of a chain n u)) found.its.transport

-- ---- a newly written text

spelled_now : {A : Type 0} (chain : List Held) (n : ℕ) (b : Asked) (s : Spelled A) → b.question ≡ Some s.question.now → s.text ≡ ok_text (answer_of b chain n s.transport) → IsSpelled chain n s
spelled_now chain n b s asked is a small same = ap (option_map (with_front a)) is ∙ sent_alike a b chain n s.transport small (asked ∙ sym same)

-- a text under its own front is unchanged
pub own_text : (chain : List Held) (n : ℕ) (t : Transport) (a : Asked) (text : Option (List ℕ)) → a.opcode < 16 → text ≡ ok_text (answer_of a chain n t) → option_map (with_front a) text ≡ ok_text (answer_of a chain n t)
own_text chain n t a text small is = ap (option_map (with_front a)) is ∙ sent_alike a a chain n t small refl

spelled_put : {A : Type 0} (chain : List Held) (n : ℕ) (texts : List (Spelled A)) (s : Spelled A) → AllByRecursion (IsSpelled chain n) texts → IsSpelled chain n s → AllByRecursion (IsSpelled chain n) (texts ++ s ∷ [])
spelled_put chain n [] s all one = (one, tt)
spelled_put chain n (t ∷ ts) s all one = (all.0, spelled_put chain n ts s all.1 one)

-- and one more kept text
pub spelled_more : {A : Type 0} (chain : List Held) (n : ℕ) (a : Asked) (texts after : List (Spelled A)) (s : Spelled A) → AreSpelled chain n texts → after ≡ texts ++ s ∷ []
    → a.question ≡ Some s.question.now → s.text ≡ ok_text (answer_of a chain n s.transport) → AreSpelled chain n after
spelled_more chain n a texts after s kept put asked is = record {
  earlier = kept.earlier;
  texts = subst (AllByRecursion (IsSpelled chain n)) (sym put) (spelled_put chain n texts s kept.texts (spelled_now chain n a s asked is));
}
