-- Messages to look up, the question wanted by an owner, and the number of pieces along a look-up,
-- computed; in each neighbour a single part fails.
use Rattle.std.proofs.Common.{◌≡◌, ◌∙◌, ℕ, zero, suc, List, [], ◌∷◌, length, Option, Some, None, refl, sym, ap, subst}
use Rattle.std.proofs.Common.{inl, inr, arith}
use Rattle.std.specs.Prelude.{map}
use Rattle.std.proofs.lemmas.Bool.{true≢false}
use Rattle.dns_message.specs.Data.{name_of_rdata}
use Rattle.dns_message.specs.Header.{header_in}
use Rattle.dns_message.specs.Names.{step as name_step, walk_in, name_within}
use Rattle.dns_message.specs.Records.{octets_end, question_at}
use Rattle.dns_message.specs.Messages.{first_question}
use Rattle.dns_message.specs.Questions.{one_question}
use Rattle.dns_message.specs.Values.{Question}
use Rattle.suffix_routes.specs.Values.{Config}
use Rattle.suffix_routes.specs.Routes.{route_of}
use Rattle.suffix_routes.specs.Serving.{serving_route_of}
use Rattle.trust_rank.specs.declared.slot.Slot.{Slot}
use Rattle.record_cache.specs.Values.{Held}
use Rattle.step_values.specs.declared.event.Client.{Client}
use Rattle.step_values.specs.Requests.{is_taken}
use Rattle.step_values.specs.Values.{Request, request_in, from_client, Step}
use Rattle.step_history.proofs.CallerLemmas.{alias_to}
use Rattle.step_table.proofs.Played.{a, b, address, config}
use Rattle.theorem_use.specs.Asking.{Wants}
use Rattle.theorem_use.specs.Touched.{Touched, LeadsAlong, LooksAlong}
use Rattle.theorem_use.specs.Use.{AsksToLookUp}
use Rattle.step_history.specs.Questions.{IsUnserved}
use Rattle.cache_laws.proofs.CallerLemmas.{serves_exactly}
use Rattle.worked_claims.proofs.Texts.{question_text, status_text, with_flags, client, step_of, in_one}
use Rattle.worked_claims.proofs.Silent.{nothing_followed}
use Rattle.worked_claims.proofs.Accepted.{asked}
use Rattle.worked_claims.proofs.Aliases.{alias, loop, loops, no_alias_asked}
use Rattle.worked_claims.proofs.Reasons.{denies_a}
use Rattle.worked_claims.proofs.Brought.{request_is, question_is, looks_up, wants_it}

-- ---- messages to look up

abbrev brings : List ℕ → Step
brings octets = step_of 1000 [] (from_client client octets) []

a_standard_query : AsksToLookUp config (brings (question_text 7 1)) client (address a)
a_standard_query = looks_up (brings (question_text 7 1)) 7 refl

-- the octets are the event's
own_octets : (c : Config) (octets : List ℕ) (asker : Client) (q : Question)
    (asks : AsksToLookUp c (brings octets) asker q) → octets ≡ asks.octets
own_octets c octets asker q asks = ap (λ (r : Request). r.octets)
    (request_is (record { client = client; octets = octets }) (record { client = asker; octets = asks.octets }) asks.sends)

-- a status request
another_opcode : (asker : Client) (q : Question) → AsksToLookUp config (brings (status_text 7)) asker q → ⊥
another_opcode asker q asks =
    let opcode : 2 ≡ 0 = ap (λ (octets : List ℕ). (header_in octets).opcode) (own_octets config (status_text 7) asker q asks)
    ∙ asks.opcode in
    omega (arith, opcode)

-- a reply, to be dropped
abbrev reply_text : List ℕ
reply_text = with_flags 7 129 0 1

a_reply : (asker : Client) (q : Question) → AsksToLookUp config (brings reply_text) asker q → ⊥
a_reply asker q asks = true≢false (sym asks.taken ∙ sym (ap is_taken (own_octets config reply_text asker q asks)))

-- a question for every type at once
abbrev for_every_type : Question
for_every_type = record (address a) { kind = 255 }

every_type : (asker : Client) (q : Question) → AsksToLookUp config (brings (question_text 7 255)) asker q → ⊥
unfolding first_question question_at octets_end name_within walk_in name_step
every_type asker q asks =
    let is : for_every_type ≡ q = question_is for_every_type q
    (ap one_question (own_octets config (question_text 7 255) asker q asks) ∙ asks.reads) in
    asks.served (subst IsUnserved is (inr (inr (inl (omega arith, omega arith)))))

-- a name without a serving route
a_denied_name : (asker : Client) (q : Question) → AsksToLookUp denies_a (brings (question_text 7 1)) asker q → ⊥
unfolding first_question question_at octets_end name_within walk_in name_step route_of
a_denied_name asker q asks =
    let is : address a ≡ q = question_is (address a) q
    (ap one_question (own_octets denies_a (question_text 7 1) asker q asks) ∙ asks.reads) in
    let none : ◌≡◌ {A = Option ℕ} None (Some asks.route) = ap (λ (x : Question). serving_route_of denies_a x.name) is
    ∙ serves_exactly.each denies_a q.name asks.route (tt, tt) asks.on_route in
    absurd cc

-- ---- the question wanted by an owner: its own, if no alias was carried

abbrev one_asked : List Step
one_asked = asked ∷ []

it_wants_its_own : Wants config one_asked 0 (address a)
it_wants_its_own = wants_it config asked 7 [] one_asked refl (inl refl)

-- the first letter of a name
abbrev letter_of : List (List ℕ) → ℕ
letter_of [] = 0
letter_of ([] ∷ labels) = 0
letter_of ((letter ∷ label) ∷ labels) = letter

it_wants_no_other : Wants config one_asked 0 (address b) → ⊥
unfolding first_question question_at octets_end name_within walk_in name_step
it_wants_no_other w =
    let step_is : w.asked ≡ asked = (in_one asked w.asked w.before w.in_era).0 in
    let own : Request = record { client = client; octets = question_text 7 1 } in
    let same : own ≡ record { client = w.client; octets = w.request } =
    request_is own (record { client = w.client; octets = w.request }) (ap (λ (s : Step). request_in s.input.event) (sym step_is) ∙ w.sent) in
    let question : address a ≡ w.question =
    question_is (address a) w.question (ap (λ (r : Request). one_question r.octets) same ∙ w.reads) in
    let last : address b ≡ w.question = (nothing_followed _ w.question (address b) w.aliases (refl, tt) w.leads.follows).1 in
    let letters : 98 ≡ 97 = ap (λ (q : Question). letter_of q.name) (last ∙ sym question) in
    omega (arith, letters)

a_step_with_another_number : (q : Question) → Wants config one_asked 1 q → ⊥
a_step_with_another_number q w =
    let none : w.before ≡ [] = (in_one asked w.asked w.before w.in_era).1 in
    let number : 1 ≡ 0 = w.number ∙ ap (λ (steps : List Step). length steps) none in
    omega (arith, number)

-- ---- a look-up leads along nine pieces at most

-- a.e is an alias of itself
abbrev circle : List Touched
circle = record { carried = loop ∷ []; used = []; unkept = 0 } ∷ []

one_more : (pieces : List Held) → LeadsAlong (Unit {0}) 2000 circle (address a) pieces
    → LeadsAlong (Unit {0}) 2000 circle (address a) (loop ∷ pieces)
unfolding name_of_rdata name_within walk_in name_step
one_more pieces leads =
    ((inl refl, omega arith), inr (no_alias_asked, record { name = refl; class = refl; kind = refl }, a, alias_to alias a refl, leads))

round : (n : ℕ) → LeadsAlong (Unit {0}) 2000 circle (address a) (loops n)
round zero = tt
round (suc n) = one_more (loops n) (round n)

abbrev slots : ℕ → List Slot
slots n = map (λ (h : Held). h.piece.slot) (loops n)

along_nine : LooksAlong (Unit {0}) 2000 circle (address a) (slots 9)
along_nine = record { pieces = loops 9; leads = round 9; few = omega arith; are = refl }

mapped : (pieces : List Held) → length (map (λ (h : Held). h.piece.slot) pieces) ≡ length pieces
mapped [] = refl
mapped (h ∷ pieces) = ap suc (mapped pieces)

along_ten : LooksAlong (Unit {0}) 2000 circle (address a) (slots 10) → ⊥
along_ten looks =
    let ten : 10 ≡ length looks.pieces = ap length looks.are ∙ mapped looks.pieces in
    let few = looks.few in
    omega (arith, ten, few)
