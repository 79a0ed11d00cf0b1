-- Answers from cache with equal sections, computed: different identifiers make no difference; a
-- different TTL, order or result code does.
use Rattle.std.proofs.Common.{◌≡◌, ℕ, List, [], ◌∷◌, get_or, Ok, false, refl, sym, ap, ◌∙◌, arith}
use Rattle.dns_message.specs.Names.{step as name_step, walk_in, name_within}
use Rattle.dns_message.specs.Data.{octets_within, parts_at, data_at}
use Rattle.dns_message.specs.Shapes.{shape_of}
use Rattle.dns_message.specs.Header.{header_of, header_in}
use Rattle.dns_message.specs.Records.{octets_end, question_at, record_at, counted}
use Rattle.dns_message.specs.Messages.{Spells, message_at, message_of}
use Rattle.dns_message.specs.Values.{Record, Message}
use Rattle.dns_message.proofs.CallerLemmas.{message_read_is_spelled, one_message_is_spelled}
use Rattle.step_history.specs.Sound.{SameSections}
use Rattle.step_table.proofs.Played.{a, address}

-- ---- answers with two addresses of a.e

-- identifier, result code, and for both addresses the TTL and the last octet
abbrev pub answer : ℕ → ℕ → ℕ → ℕ → ℕ → List ℕ
answer id code ttl first second =
    0 ∷ id ∷ 129 ∷ code ∷ 0 ∷ 1 ∷ 0 ∷ 2 ∷ 0 ∷ 0 ∷ 0 ∷ 0 ∷ 1 ∷ 97 ∷ 1 ∷ 101 ∷ 0 ∷ 0 ∷ 1 ∷ 0 ∷ 1
    ∷ 192 ∷ 12 ∷ 0 ∷ 1 ∷ 0 ∷ 1 ∷ 0 ∷ 0 ∷ 0 ∷ ttl ∷ 0 ∷ 4 ∷ 198 ∷ 51 ∷ 100 ∷ first
    ∷ 192 ∷ 12 ∷ 0 ∷ 1 ∷ 0 ∷ 1 ∷ 0 ∷ 0 ∷ 0 ∷ ttl ∷ 0 ∷ 4 ∷ 198 ∷ 51 ∷ 100 ∷ second ∷ []

abbrev host : ℕ → ℕ → Record
host ttl last = record { owner = a; kind = 1; class = 1; ttl = ttl; rdata = 198 ∷ 51 ∷ 100 ∷ last ∷ [] }

abbrev message : ℕ → ℕ → ℕ → ℕ → ℕ → Message
message id code ttl first second = record {
  header = header_in (answer id code ttl first second);
  questions = address a ∷ [];
  answers = host ttl first ∷ host ttl second ∷ [];
  authority = [];
  additional = [];
}

-- RA, no failure
abbrev ok : ℕ
ok = 128

reads_one : message_of (answer 7 ok 60 5 6) ≡ Ok (message 7 ok 60 5 6)
unfolding message_at header_of counted question_at octets_end record_at data_at octets_within parts_at shape_of
    name_within walk_in name_step
reads_one = refl

reads_other_identifier : message_of (answer 9 ok 60 5 6) ≡ Ok (message 9 ok 60 5 6)
unfolding message_at header_of counted question_at octets_end record_at data_at octets_within parts_at shape_of
    name_within walk_in name_step
reads_other_identifier = refl

reads_other_ttl : message_of (answer 7 ok 59 5 6) ≡ Ok (message 7 ok 59 5 6)
unfolding message_at header_of counted question_at octets_end record_at data_at octets_within parts_at shape_of
    name_within walk_in name_step
reads_other_ttl = refl

reads_other_order : message_of (answer 7 ok 60 6 5) ≡ Ok (message 7 ok 60 6 5)
unfolding message_at header_of counted question_at octets_end record_at data_at octets_within parts_at shape_of
    name_within walk_in name_step
reads_other_order = refl

reads_other_code : message_of (answer 7 131 60 5 6) ≡ Ok (message 7 131 60 5 6)
unfolding message_at header_of counted question_at octets_end record_at data_at octets_within parts_at shape_of
    name_within walk_in name_step
reads_other_code = refl

-- ---- equal answers

-- octets read as m and spelling n: the messages are equal
is_this : (octets : List ℕ) (m n : Message) → message_of octets ≡ Ok m → Spells octets n → m ≡ n
is_this octets m n reads spells = one_message_is_spelled octets m n (message_read_is_spelled octets m reads) spells

-- both have the sections of these messages
sections_of_both : (x y : List ℕ) (m n : Message) → message_of x ≡ Ok m → message_of y ≡ Ok n → SameSections x y
    → m.header.tc ≡ false → n.header.tc ≡ false
    → (m.header.rcode ≡ n.header.rcode) × (m.answers ≡ n.answers) × (m.authority ≡ n.authority)
sections_of_both x y m n left right same =
    same m n (message_read_is_spelled x m left) (message_read_is_spelled y n right)

pub other_identifiers_are_the_same : SameSections (answer 7 ok 60 5 6) (answer 9 ok 60 5 6)
other_identifiers_are_the_same m n left right whole whole' =
    let first : message 7 ok 60 5 6 ≡ m = is_this (answer 7 ok 60 5 6) _ m reads_one left in
    let second : message 9 ok 60 5 6 ≡ n = is_this (answer 9 ok 60 5 6) _ n reads_other_identifier right in (
      sym (ap (λ (x : Message). x.header.rcode) first) ∙ ap (λ (x : Message). x.header.rcode) second,
      sym (ap (λ (x : Message). x.answers) first) ∙ ap (λ (x : Message). x.answers) second,
      sym (ap (λ (x : Message). x.authority) first) ∙ ap (λ (x : Message). x.authority) second,
    )

abbrev first_ttl : List Record → ℕ
first_ttl [] = 0
first_ttl (r ∷ rs) = r.ttl

abbrev first_octet : List Record → ℕ
first_octet [] = 0
first_octet (r ∷ rs) = get_or r.rdata 3 0

-- the answer of a second later
pub other_ttls_are_not_the_same : SameSections (answer 7 ok 59 5 6) (answer 9 ok 60 5 6) → ⊥
other_ttls_are_not_the_same same =
    let ttls : 59 ≡ 60 =
    ap first_ttl
    (sections_of_both _ _ (message 7 ok 59 5 6)
    (message 9 ok 60 5 6) reads_other_ttl reads_other_identifier same refl refl).1 in
    omega (arith, ttls)

another_order_is_not_the_same : SameSections (answer 7 ok 60 5 6) (answer 7 ok 60 6 5) → ⊥
another_order_is_not_the_same same =
    let octets : 5 ≡ 6 =
    ap first_octet
    (sections_of_both _ _ (message 7 ok 60 5 6)
    (message 7 ok 60 6 5) reads_one reads_other_order same refl refl).1 in
    omega (arith, octets)

another_result_code_is_not_the_same : SameSections (answer 7 ok 60 5 6) (answer 7 131 60 5 6) → ⊥
another_result_code_is_not_the_same same =
    let codes : 0 ≡ 3 =
    (sections_of_both _ _ (message 7 ok 60 5 6)
    (message 7 131 60 5 6) reads_one reads_other_code same refl refl).0 in
    omega (arith, codes)
