-- The reasons for no answer at once, computed: for each reason a history, and neighbours a step, a
-- question, an ask or a port away.
use Rattle.std.proofs.Common.{◌≡◌, ℕ, ◌-◌, ◌^◌, List, [], ◌∷◌, length, Option, Some, None, true, false, refl, sym, ap, ◌∙◌, inl, inr, arith, subst}
use Rattle.std.proofs.lemmas.Bool.{true≢false}
use Rattle.dns_message.specs.Names.{step as name_step, walk_in, name_within}
use Rattle.dns_message.specs.Records.{octets_end, question_at}
use Rattle.dns_message.specs.Messages.{first_question}
use Rattle.dns_message.specs.Values.{Question}
use Rattle.suffix_routes.specs.Values.{Config}
use Rattle.suffix_routes.specs.Routes.{route_of}
use Rattle.step_values.specs.declared.action.Why.TheVariants.{BadOpcode, BadFormat, NotServed, NoRoute, QuestionsFull, InquiriesFull, NoPort}
use Rattle.step_values.specs.Values.{from_client, tick, close_udp, Action, Step}
use Rattle.suffix_routes.specs.Serving.{serving_route_of, is_local}
use Rattle.step_history.specs.History.{Look, before_newest, tcp_asks, listed}
use Rattle.cache_laws.proofs.CallerLemmas.{none_serves_exactly}
use Rattle.step_history.specs.Causes.{Cause, HasNoRoute, newest_words, newest_actions}
use Rattle.dns_message.specs.Questions.{same_question}
use Rattle.step_history.specs.Draws.{drawn}
use Rattle.outstanding.specs.Draws.{drawn_by_tcp}
use Rattle.step_table.proofs.Played.{a, b, address, server, config}
use Rattle.theorem_use.proofs.TheoremSound.Served.{served_is}
use Rattle.step_history.specs.Questions.{IsUnserved}
use Rattle.worked_claims.proofs.Texts.{question_text, status_text, client, step_of}
use Rattle.worked_claims.proofs.Silent.{IsSilent, nothing_followed}
use Rattle.worked_claims.proofs.Accepted.{asked}
use Rattle.worked_claims.proofs.Brought.{question_is}

-- ---- at once, and a step later

abbrev asks_so : List ℕ → Step
asks_so octets = step_of 1000 [] (from_client client octets) []

abbrev passes : Step
passes = step_of 1001 [] tick []

abbrev at_once : Config → List ℕ → Look
at_once c octets = record { config = c; asked = asks_so octets; before = []; now = asks_so octets ∷ [] }

abbrev a_step_later : Config → List ℕ → Look
a_step_later c octets = record { config = c; asked = asks_so octets; before = []; now = passes ∷ asks_so octets ∷ [] }

no_step_is_none : (s t : Step) → s ∷ t ∷ [] ≡ t ∷ [] → ⊥
no_step_is_none s t same = let steps : 2 ≡ 1 = ap length same in omega (arith, steps)

-- ---- another opcode

another_opcode : Cause (at_once config (status_text 7)) client (status_text 7) 0 BadOpcode
another_opcode = (refl, λ same. let opcode : 2 ≡ 0 = same in omega (arith, opcode))

a_query_has_no_other_opcode : Cause (at_once config (question_text 7 1)) client (question_text 7 1) 0 BadOpcode → ⊥
a_query_has_no_other_opcode h = h.1 refl

another_opcode_is_told_at_once : Cause (a_step_later config (status_text 7)) client (status_text 7) 0 BadOpcode → ⊥
another_opcode_is_told_at_once h = no_step_is_none passes (asks_so (status_text 7)) h.0

-- ---- an unreadable format

-- two questions are counted
abbrev two_counted : List ℕ
two_counted = 0 ∷ 7 ∷ 1 ∷ 0 ∷ 0 ∷ 2 ∷ 0 ∷ 0 ∷ 0 ∷ 0 ∷ 0 ∷ 0 ∷ 1 ∷ 97 ∷ 1 ∷ 101 ∷ 0 ∷ 0 ∷ 1 ∷ 0 ∷ 1 ∷ []

-- the name is a pointer to itself
abbrev unreadable : List ℕ
unreadable = 0 ∷ 7 ∷ 1 ∷ 0 ∷ 0 ∷ 1 ∷ 0 ∷ 0 ∷ 0 ∷ 0 ∷ 0 ∷ 0 ∷ 192 ∷ 12 ∷ 0 ∷ 1 ∷ 0 ∷ 1 ∷ []

none_is_read : {q : Question} → ◌≡◌ {A = Option Question} None (Some q) → ⊥
none_is_read is = absurd cc

two_questions_have_no_format : Cause (at_once config two_counted) client two_counted 0 BadFormat
two_questions_have_no_format = (refl, refl, λ q reads. none_is_read reads)

an_unreadable_question_has_no_format : Cause (at_once config unreadable) client unreadable 0 BadFormat
unfolding first_question question_at octets_end name_within walk_in name_step
an_unreadable_question_has_no_format = (refl, refl, λ q reads. none_is_read reads)

one_question_has_a_format : Cause (at_once config (question_text 7 1)) client (question_text 7 1) 0 BadFormat → ⊥
unfolding first_question question_at octets_end name_within walk_in name_step
one_question_has_a_format h = h.2 (address a) refl

no_format_is_told_at_once : Cause (a_step_later config two_counted) client two_counted 0 BadFormat → ⊥
no_format_is_told_at_once h = no_step_is_none passes (asks_so two_counted) h.0

the_opcode_comes_before_the_format : (l : Look) → Cause l client (status_text 7) 0 BadFormat → ⊥
the_opcode_comes_before_the_format l h = let opcode : 2 ≡ 0 = h.1 in omega (arith, opcode)

-- ---- types not served

-- a question for this type at a.e
abbrev of_type : ℕ → Question
of_type kind = record (address a) { kind = kind }

type_128_is_not_served : Cause (at_once config (question_text 7 128)) client (question_text 7 128) 0 NotServed
unfolding first_question question_at octets_end name_within walk_in name_step
type_128_is_not_served = record { at_once = refl; opcode = refl; question = of_type 128; reads = refl; unserved = inr (inr (inl (omega arith, omega arith))) }

type_127_is_served : Cause (at_once config (question_text 7 127)) client (question_text 7 127) 0 NotServed → ⊥
unfolding first_question question_at octets_end name_within walk_in name_step
type_127_is_served h =
    let reads : Some (of_type 127) ≡ Some h.question = h.reads in
    let same : of_type 127 ≡ h.question = cc in
    served_is (of_type 127) refl (subst IsUnserved (sym same) h.unserved)

what_is_not_served_is_told_at_once : Cause (a_step_later config (question_text 7 128)) client
    (question_text 7 128) 0 NotServed
    → ⊥
what_is_not_served_is_told_at_once h = no_step_is_none passes (asks_so (question_text 7 128)) h.at_once

-- ---- names without a route

-- b.e has a route
abbrev for_b : Config
for_b = record config { routes = record { suffix = b; deny = false; servers = server ∷ [] } ∷ [] }

-- a.e has a denying route
abbrev pub denies_a : Config
denies_a = record config { routes = record { suffix = a; deny = true; servers = [] } ∷ [] }

a_has_no_route : Cause (at_once for_b (question_text 7 1)) client (question_text 7 1) 0 NoRoute
unfolding first_question question_at octets_end name_within walk_in name_step route_of
a_has_no_route = record {
  opcode = refl;
  question = address a;
  reads = refl;
  served = served_is (address a) refl;
  aliases = [];
  last = address a;
  leads = record { few = omega arith; follows = refl };
  none = none_serves_exactly.only for_b a refl refl;
  at_once = λ none. refl;
}

-- if no server was heard, the name in question is the client's own
own_name : (l : Look) → IsSilent l.now → (h : HasNoRoute l (question_text 7 1)) → h.last ≡ address a
unfolding first_question question_at octets_end name_within walk_in name_step
own_name l silent h =
    let reads : Some (address a) ≡ Some h.question = h.reads in
    let same : address a ≡ h.question = cc in
    (nothing_followed l h.question h.last h.aliases silent h.leads.follows).1 ∙ sym same

some_route : {k : ℕ} → ◌≡◌ {A = Option ℕ} (Some k) None → ⊥
some_route is = absurd cc

a_has_a_route : Cause (at_once config (question_text 7 1)) client (question_text 7 1) 0 NoRoute → ⊥
unfolding route_of
a_has_a_route h =
    some_route (ap (λ (q : Question). serving_route_of config q.name)
    (sym (own_name (at_once config (question_text 7 1)) (refl, tt) h))
    ∙ (none_serves_exactly.each config h.last.name h.none).0)

-- a denied name does not fail for lack of a route
a_is_denied : Cause (at_once denies_a (question_text 7 1)) client (question_text 7 1) 0 NoRoute → ⊥
unfolding route_of
a_is_denied h =
    true≢false (ap (λ (q : Question). is_local denies_a q.name)
    (sym (own_name (at_once denies_a (question_text 7 1)) (refl, tt) h))
    ∙ (none_serves_exactly.each denies_a h.last.name h.none).1)

no_route_is_told_at_once : Cause (a_step_later for_b (question_text 7 1)) client (question_text 7 1) 0 NoRoute → ⊥
no_route_is_told_at_once h =
    let l : Look = a_step_later for_b (question_text 7 1) in
    no_step_is_none passes (asks_so (question_text 7 1))
    (h.at_once (nothing_followed l h.question h.last h.aliases (refl, (refl, tt)) h.leads.follows).0)

-- ---- as many questions as may wait

as_many_questions_wait_as_may : Cause (at_once config (question_text 7 1)) client (question_text 7 1) 1024 QuestionsFull
as_many_questions_wait_as_may = (refl, refl)

one_fewer_waits : Cause (at_once config (question_text 7 1)) client (question_text 7 1) 1023 QuestionsFull → ⊥
one_fewer_waits h = let few : 1023 ≡ 1024 = h.1 in omega (arith, few)

one_more_waits : Cause (at_once config (question_text 7 1)) client (question_text 7 1) 1025 QuestionsFull → ⊥
one_more_waits h = let many : 1025 ≡ 1024 = h.1 in omega (arith, many)

too_many_questions_are_told_at_once : Cause (a_step_later config (question_text 7 1)) client
    (question_text 7 1) 1024 QuestionsFull
    → ⊥
too_many_questions_are_told_at_once h = no_step_is_none passes (asks_so (question_text 7 1)) h.0

-- ---- as many asks as may be listed

-- at most one inquiry may be open
abbrev for_one : Config
for_one = record config { limits = record config.limits { inquiries = 1 } }

-- a question for b.e
abbrev text_of_b : List ℕ
text_of_b = 0 ∷ 9 ∷ 1 ∷ 0 ∷ 0 ∷ 1 ∷ 0 ∷ 0 ∷ 0 ∷ 0 ∷ 0 ∷ 0 ∷ 1 ∷ 98 ∷ 1 ∷ 101 ∷ 0 ∷ 0 ∷ 1 ∷ 0 ∷ 1 ∷ []

-- the question comes after earlier steps, with these words and actions
abbrev asks_for_b : List ℕ → List Action → Step
asks_for_b words actions = step_of 1010 words (from_client client text_of_b) actions

abbrev behind : Config → Step → List Step → Look
behind c s before = record { config = c; asked = s; before = before; now = s ∷ before }

as_many_asks_are_listed_as_may : Cause (behind for_one (asks_for_b [] []) (asked ∷ [])) client text_of_b 1 InquiriesFull
unfolding first_question question_at octets_end name_within walk_in name_step
as_many_asks_are_listed_as_may = record {
  at_once = refl;
  full = refl;
  question = address b;
  reads = refl;
  aliases = [];
  last = address b;
  leads = record { few = omega arith; follows = refl };
  none_asks = ((λ own reads. ap (λ (q : Question). same_question q (address b)) (sym (question_is (address a) own reads))), tt);
}

one_fewer_ask_is_listed : Cause (behind for_one (asks_for_b [] []) []) client text_of_b 1 InquiriesFull → ⊥
one_fewer_ask_is_listed h = let few : 0 ≡ 1 = h.full in omega (arith, few)

-- the listed ask is for the question, which could join it
one_could_join : Cause (behind for_one (step_of 1010 [] (from_client client (question_text 9 1)) []) (asked ∷ [])) client
    (question_text 9 1) 1 InquiriesFull
    → ⊥
unfolding first_question question_at octets_end name_within walk_in name_step
one_could_join h =
    let silent = nothing_followed _ h.question h.last h.aliases (refl, (refl, tt)) h.leads.follows in
    let own : address a ≡ h.last = question_is (address a) h.question h.reads ∙ sym silent.1 in
    true≢false (ap (λ (q : Question). same_question (address a) q) own ∙ h.none_asks.0 (address a) refl)

-- the ask's path was given up
abbrev gave_up : Step
gave_up = step_of 1005 [] tick (close_udp 1032 ∷ [])

a_closed_ask_is_not_listed : Cause
    (behind for_one (asks_for_b [] []) (gave_up ∷ asked ∷ [])) client text_of_b 1 InquiriesFull
    → ⊥
a_closed_ask_is_not_listed h = let few : 0 ≡ 1 = h.full in omega (arith, few)

too_many_asks_are_told_at_once : Cause
    (record (behind for_one (asks_for_b [] []) (asked ∷ [])) {
      now = passes ∷ asks_for_b [] [] ∷ asked
          ∷ [];
    }) client text_of_b 1 InquiriesFull
    → ⊥
too_many_asks_are_told_at_once h = let steps : 3 ≡ 2 = ap length h.at_once in omega (arith, steps)

-- ---- no path

-- the only word gives port 1032, the listed ask's
no_port_is_free : Cause (behind config (asks_for_b (524296 ∷ []) []) (asked ∷ [])) client text_of_b 1 NoPort
no_port_is_free = inl refl

nothing_drawn : {x : ℕ × ℕ} → ◌≡◌ {A = Option (ℕ × ℕ)} (Some x) None → ⊥
nothing_drawn is = absurd cc

-- a second word gives port 1040, still free
one_port_is_free : Cause (behind config (asks_for_b (524296 ∷ 1048592 ∷ []) []) (asked ∷ [])) client text_of_b 1 NoPort
    → ⊥
one_port_is_free (inl none) = nothing_drawn none
one_port_is_free (inr many) = omega (arith, many)

-- the port is free if its ask was closed before, or is given up in this step
the_port_was_given_up : Cause
    (behind config (asks_for_b (524296 ∷ []) []) (gave_up ∷ asked ∷ [])) client text_of_b 1 NoPort
    → ⊥
the_port_was_given_up (inl none) = nothing_drawn none
the_port_was_given_up (inr many) = omega (arith, many)

the_port_is_given_up_now : Cause
    (behind config (asks_for_b (524296 ∷ []) (close_udp 1032 ∷ [])) (asked ∷ [])) client text_of_b 1 NoPort
    → ⊥
the_port_is_given_up_now (inl none) = nothing_drawn none
the_port_is_given_up_now (inr many) = omega (arith, many)

-- by TCP the last number is never given
as_many_went_by_tcp_as_may : (l : Look) → tcp_asks (before_newest l.now) ≡ 2 ^ 64 - 1
    → Cause l client text_of_b 1 NoPort
as_many_went_by_tcp_as_may l many = inr many

one_fewer_went_by_tcp : (l : Look) (d : ℕ × ℕ)
    → drawn (newest_words l.now) (listed (before_newest l.now)) (newest_actions l.now) ≡ Some d
    → tcp_asks (before_newest l.now) ≡ 2 ^ 64 - 2 → Cause l client text_of_b 1 NoPort → ⊥
one_fewer_went_by_tcp l d free few (inl none) = nothing_drawn (sym free ∙ none)
one_fewer_went_by_tcp l d free few (inr many) = omega (arith, few, many)

numbers_by_tcp : (drawn_by_tcp (524296 ∷ []) (2 ^ 64 - 1) ≡ None)
    × (drawn_by_tcp (524296 ∷ []) (2 ^ 64 - 2) ≡ Some (8, 2 ^ 64 - 2)) × (drawn_by_tcp (524296 ∷ []) 0 ≡ Some (8, 0))
numbers_by_tcp = (refl, refl, refl)
