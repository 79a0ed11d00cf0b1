-- Replies by transport, computed: over UDP an answer up to 512 octets goes out whole, and is cut
-- from 513 on; over TCP up to 65,535 octets go out (RFC 1035 4.2.1 and 4.2.2).
use Rattle.std.proofs.Common.{◌≡◌, ℕ, ◌+◌, ◌≤◌, List, [], ◌∷◌, length, false, Some, refl, sym, ap, ◌∙◌, arith}
use Rattle.std.specs.Prelude.{nat_le}
use Rattle.std.proofs.lemmas.Bool.{le-leb, lt-leb, cond-true, cond-false}
use Rattle.dns_message.specs.Header.{header_in}
use Rattle.dns_message.specs.Writing.{◌▹◌, each, name_text, written}
use Rattle.step_history.specs.Replies.{cut_text, sized_for, FitsTransport}
use Rattle.answer_builder.specs.Values.{asked_in}
use Rattle.worked_claims.proofs.Texts.{client, stream_client}
use Rattle.worked_claims.proofs.Failures.{large, of_1000, text_of_1000, answer_of, answer_takes}

-- ---- over UDP

-- the question alone, with TC
abbrev cut : List ℕ
cut = 0 ∷ 7 ∷ 131 ∷ 128 ∷ 0 ∷ 1 ∷ 0 ∷ 0 ∷ 0 ∷ 0 ∷ 0 ∷ 0 ∷ 1 ∷ 97 ∷ 1 ∷ 101 ∷ 0 ∷ 3 ∷ 232 ∷ 0 ∷ 1 ∷ []

abbrev cut_of : List ℕ → ℕ → List ℕ
cut_of octets t = cut_text (asked_in (header_in text_of_1000) (Some of_1000)) [] (large octets) t

the_cut : (octets : List ℕ) (t : ℕ) → cut_of octets t ≡ cut
unfolding written ◌▹◌ each name_text
the_cut octets t = refl

whole_up_to_512 : (octets : List ℕ) (t : ℕ) → length octets ≡ 479
    → sized_for client (answer_of octets t) (cut_of octets t) ≡ answer_of octets t
whole_up_to_512 octets t many =
    let takes = answer_takes octets t in
    cond-true (nat_le (length (answer_of octets t)) 512) _ _
    (le-leb (length (answer_of octets t)) 512 (omega (arith, takes, many)))

cut_from_513_on : (octets : List ℕ) (t : ℕ) → length octets ≡ 480
    → sized_for client (answer_of octets t) (cut_of octets t) ≡ cut
cut_from_513_on octets t many =
    let takes = answer_takes octets t in
    cond-false (nat_le (length (answer_of octets t)) 512) _ _ (passes takes) ∙ the_cut octets t
  where
    passes : length (answer_of octets t) ≡ 33 + length octets → nat_le (length (answer_of octets t)) 512 ≡ false
    passes takes = lt-leb (length (answer_of octets t)) 512 (omega (arith, takes, many))

-- a cut answer has 21 octets, so cut and whole answer differ
not_whole_from_513_on : (octets : List ℕ) (t : ℕ) → length octets ≡ 480
    → sized_for client (answer_of octets t) (cut_of octets t) ≡ answer_of octets t → ⊥
not_whole_from_513_on octets t many whole =
    let takes = answer_takes octets t in
    let lengths : length cut ≡ length (answer_of octets t) = ap length (sym (cut_from_513_on octets t many) ∙ whole) in
    omega (arith, takes, many, lengths)

-- ---- over TCP

never_cut : (full short : List ℕ) → sized_for stream_client full short ≡ full
never_cut full short = refl

as_long_as_fits : (octets : List ℕ) → length octets ≡ 65535 → FitsTransport stream_client octets
as_long_as_fits octets many = omega (arith, many)

an_octet_too_long : (octets : List ℕ) → length octets ≡ 65536 → FitsTransport stream_client octets → ⊥
an_octet_too_long octets many fits = let most : length octets ≤ 65535 = fits in omega (arith, many, most)

-- over UDP the cut ensures the fit
whatever_is_sent_by_udp : (octets : List ℕ) → FitsTransport client octets
whatever_is_sent_by_udp octets = tt
