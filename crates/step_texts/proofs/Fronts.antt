-- Answers to requests with a single question differ in the first three octets alone.
use Rattle.std.proofs.Common.{◌≡◌, ℕ, ◌+◌, ◌<◌, ◌≤◌, List, [], ◌∷◌, length, length-drop, Bool, true, false, cond, refl, sym, ap, ◌∙◌, arith, Option, Some, None}
use Rattle.std.specs.Prelude.{◌*◌, ◌/◌, ◌%◌, nat_le, map, Ok, Err, option_map}
use Rattle.std.specs.Option.{IfSome}
use Rattle.dns_message.specs.Values.{Question, Message}
use Rattle.dns_message.specs.Writing.{◌▹◌, written, bit}
use Rattle.record_cache.specs.TrustRank.Values.{Body, rows, no_data, denied}
use Rattle.record_cache.specs.Values.{Held}
use Rattle.answer_builder.specs.declared.asked.Transport.{Transport}
use Rattle.answer_builder.specs.declared.asked.Transport.TheVariants.{Udp, Tcp}
use Rattle.answer_builder.specs.declared.fault.Fault.TheVariants.{TooLarge}
use Rattle.answer_builder.specs.Values.{PieceWithTtl, Asked, Sections}
use Rattle.answer_builder.specs.Answers.{rcode_of, with_ttl, last_of, sections_with_ttls, sections_of, answer_message, full_answer, cut_answer, bare}
use Rattle.answer_builder.specs.Transports.{sent_over, answer_of}
use Rattle.step_texts.specs.Spelling.{ok_text, with_front}

-- ---- the first octets

-- a header has 12 octets
pub long_enough : (m : Message) → 12 ≤ length (written m)
unfolding written ◌▹◌
long_enough m = omega arith

-- QR, opcode, AA, TC and RD: TC is unchanged
high_flags : (opcode other : ℕ) (rd other_rd cut : Bool) (rcode : ℕ) → opcode < 16 → rcode < 16
    → 128 + opcode * 8 + (32768 + other * 2048 + 0 + bit cut 512 + bit other_rd 256 + 128 + 0 + rcode) / 256 % 256 / 2 % 2 * 2 + bit rd 1
    ≡ (32768 + opcode * 2048 + 0 + bit cut 512 + bit rd 256 + 128 + 0 + rcode) / 256 % 256
high_flags opcode other true true true rcode small code = omega (arith, small, code)
high_flags opcode other true true false rcode small code = omega (arith, small, code)
high_flags opcode other true false true rcode small code = omega (arith, small, code)
high_flags opcode other true false false rcode small code = omega (arith, small, code)
high_flags opcode other false true true rcode small code = omega (arith, small, code)
high_flags opcode other false true false rcode small code = omega (arith, small, code)
high_flags opcode other false false true rcode small code = omega (arith, small, code)
high_flags opcode other false false false rcode small code = omega (arith, small, code)

-- RA, Z and RCODE
low_flags : (opcode : ℕ) (rd : Bool) (other : ℕ) (other_rd : Bool) (cut : Bool) (rcode : ℕ)
    → (32768 + opcode * 2048 + 0 + bit cut 512 + bit rd 256 + 128 + 0 + rcode) % 256 ≡ (32768 + other * 2048 + 0 + bit cut 512 + bit other_rd 256 + 128 + 0 + rcode) % 256
low_flags opcode rd other other_rd cut rcode = sym (low opcode rd cut) ∙ low other other_rd cut
  where
    low : (opcode : ℕ) (rd cut : Bool) → (128 + rcode) % 256 ≡ (32768 + opcode * 2048 + 0 + bit cut 512 + bit rd 256 + 128 + 0 + rcode) % 256
    low opcode true true = omega arith
    low opcode true false = omega arith
    low opcode false true = omega arith
    low opcode false false = omega arith

four : (a b c d e f : ℕ) (rest : List ℕ) → c ≡ d → e ≡ f → a ∷ b ∷ c ∷ e ∷ rest ≡ a ∷ b ∷ d ∷ f ∷ rest
four a b c d e f rest third fourth = cc

-- the answer to a request is the answer to any request with an equal question, under the first
-- request's front
fronted : (a b : Asked) (cut : Bool) (s : Sections) → a.opcode < 16 → s.rcode < 16 → with_front a (written (answer_message (record b { question = a.question }) cut s)) ≡ written (answer_message a cut s)
unfolding written ◌▹◌
fronted a b cut s small code = four _ _ _ _ _ _ _ (high_flags a.opcode b.opcode a.rd b.rd cut s.rcode small code) (low_flags b.opcode b.rd a.opcode a.rd cut s.rcode)

under_own_front : (a b : Asked) (cut : Bool) (s : Sections) → a.opcode < 16 → s.rcode < 16 → b.question ≡ a.question → with_front a (written (answer_message b cut s)) ≡ written (answer_message a cut s)
under_own_front a b cut s small code same = ap (λ (q : Option Question). with_front a (written (answer_message (record b { question = q }) cut s))) same ∙ fronted a b cut s small code

-- with a new front a text has its old length
as_long : (a : Asked) (text : List ℕ) → 3 ≤ length text → length (with_front a text) ≡ length text
as_long a text some = let rest = length-drop 3 text in omega (arith, some, rest)

-- ---- the answer from a chain

small_code : (body : Body) → rcode_of body < 16
small_code (rows each) = omega arith
small_code (no_data soa) = omega arith
small_code (denied soa) = omega arith

small_rcode : (chain : List PieceWithTtl) → (sections_with_ttls chain).rcode < 16
small_rcode [] = omega arith
small_rcode (x ∷ chain) = small_code (last_of x chain).piece.body

-- if a front turns two texts into a request's own, the sent text becomes the request's
sent_fronted : (f : List ℕ → List ℕ) (full other cut other_cut : List ℕ) (t : Transport) → f other ≡ full → f other_cut ≡ cut → length other ≡ length full
    → option_map f (ok_text (sent_over t other other_cut)) ≡ ok_text (sent_over t full cut)
sent_fronted f full other cut other_cut Udp is cut_is long = ap Some (chosen (nat_le (length other) 512) ∙ (λ i. cond (nat_le (long i) 512) (is i) (cut_is i)))
  where
    chosen : (whole : Bool) → f (cond whole other other_cut) ≡ cond whole (f other) (f other_cut)
    chosen true = refl
    chosen false = refl
sent_fronted f full other cut other_cut Tcp is cut_is long = mapped (nat_le (length other) 65535) ∙ (λ i. ok_text (cond (nat_le (long i) 65535) (Ok (is i)) (Err TooLarge)))
  where
    mapped : (whole : Bool) → option_map f (ok_text (cond whole (Ok other) (Err TooLarge))) ≡ ok_text (cond whole (Ok (f other)) (Err TooLarge))
    mapped true = refl
    mapped false = refl

-- the text sent to a request is the text sent to any request with an equal question, under the
-- first request's front
pub sent_alike : (a b : Asked) (chain : List Held) (moment : ℕ) (t : Transport) → a.opcode < 16 → b.question ≡ a.question
    → option_map (with_front a) (ok_text (answer_of b chain moment t)) ≡ ok_text (answer_of a chain moment t)
sent_alike a b chain moment t small same =
    let s : Sections = sections_of moment chain in
    let full = under_own_front a b false s small (small_rcode (map (with_ttl moment) chain)) same in
    let cut = under_own_front a b true (bare s.rcode) small (small_rcode (map (with_ttl moment) chain)) same in
    let enough = long_enough (full_answer b s) in
    let long = sym (as_long a (written (full_answer b s)) (omega (arith, enough))) ∙ ap (λ (text : List ℕ). length text) full in
    sent_fronted (with_front a) (written (full_answer a s)) (written (full_answer b s)) (written (cut_answer a s)) (written (cut_answer b s)) t full cut long

-- ---- a text with a front

-- one of two texts is sent
one_of : (t : Transport) (full cut text : List ℕ) → 12 ≤ length full → 12 ≤ length cut → Some text ≡ ok_text (sent_over t full cut) → 12 ≤ length text
one_of Udp full cut text long cut_long e = udp (nat_le (length full) 512) e
  where
    udp : (whole : Bool) → Some text ≡ Some (cond whole full cut) → 12 ≤ length text
    udp true is = let same : text ≡ full = cc in rw same long
    udp false is = let same : text ≡ cut = cc in rw same cut_long
one_of Tcp full cut text long cut_long e = tcp (nat_le (length full) 65535) e
  where
    tcp : (whole : Bool) → Some text ≡ ok_text (cond whole (Ok full) (Err TooLarge)) → 12 ≤ length text
    tcp true is = let same : text ≡ full = cc in rw same long
    tcp false is = absurd (cc)

-- an answer under a different front has the octets of a front
pub has_front : (chain : List Held) (n : ℕ) (t : Transport) (a : Asked) (text : Option (List ℕ)) → option_map (with_front a) text ≡ ok_text (answer_of a chain n t) → IfSome text (λ t. 3 ≤ length t)
has_front chain n t a None e = tt
has_front chain n t a (Some text) e =
    let s : Sections = sections_of n chain in
    let long = one_of t (written (full_answer a s)) (written (cut_answer a s)) (with_front a text) (long_enough (full_answer a s)) (long_enough (cut_answer a s)) e in
    let rest = length-drop 3 text in
    omega (arith, long, rest)
