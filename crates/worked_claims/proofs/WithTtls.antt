-- The outcome of a step, computed: the texts of failures, the report whether more is due, and the
-- number of steps with owners.
use Rattle.std.proofs.Common.{◌≡◌, ℕ, List, [], ◌∷◌, get_or, length, Some, refl, sym, ap, ◌∙◌, arith}
use Rattle.std.proofs.lemmas.Bool.{true≢false}
use Rattle.dns_message.specs.Header.{header_in}
use Rattle.dns_message.specs.Names.{step as name_step, walk_in, name_within}
use Rattle.dns_message.specs.Records.{octets_end, question_at}
use Rattle.dns_message.specs.Messages.{first_question}
use Rattle.dns_message.specs.Values.{Question}
use Rattle.dns_message.specs.Writing.{◌▹◌, each, name_text, written}
use Rattle.suffix_routes.specs.Values.{Config}
use Rattle.step_values.specs.declared.action.Why.TheVariants.{BadFormat, NoRoute, Deadline}
use Rattle.step_values.specs.Values.{tick, Step}
use Rattle.step_history.specs.Replies.{failure_text}
use Rattle.answer_builder.specs.Values.{asked_in}
use Rattle.step_history.specs.Accounting.{TellsMore}
use Rattle.step_history.specs.Sound.{IsErrorResponse, Sound}
use Rattle.step_table.proofs.Played.{a, address, config}
use Rattle.worked_claims.proofs.Texts.{question_text, failure_with, step_of}
use Rattle.worked_claims.proofs.Accepted.{asked}

-- ---- the texts of failures

-- the question as received, and result code 2
with_the_question : IsErrorResponse (question_text 7 1) Deadline (failure_with 7 2)
unfolding written ◌▹◌ each name_text first_question question_at octets_end name_within walk_in name_step
with_the_question = (address a, refl, refl)

-- the text of a failure of this question is unique
the_text : (octets : List ℕ) (h : IsErrorResponse (question_text 7 1) Deadline octets) → octets ≡ failure_with 7 2
unfolding written ◌▹◌ each name_text first_question question_at octets_end name_within walk_in name_step
the_text octets h =
    let reads : Some (address a) ≡ Some h.0 = h.1 in
    let own : address a ≡ h.0 = cc in
    h.2 ∙ ap (λ (q : Question). failure_text (asked_in (header_in (question_text 7 1)) (Some q)) Deadline) (sym own)

with_another_result_code : IsErrorResponse (question_text 7 1) Deadline (failure_with 7 5) → ⊥
with_another_result_code h = let flags : 133 ≡ 130 =
    ap (λ (octets : List ℕ). get_or octets 3 0) (the_text (failure_with 7 5) h) in omega (arith, flags)

with_another_identifier : IsErrorResponse (question_text 7 1) Deadline (failure_with 8 2) → ⊥
with_another_identifier h = let ids : 8 ≡ 7 =
    ap (λ (octets : List ℕ). get_or octets 1 0) (the_text (failure_with 8 2) h) in omega (arith, ids)

abbrev bare : ℕ → List ℕ
bare low = 0 ∷ 7 ∷ 129 ∷ low ∷ 0 ∷ 0 ∷ 0 ∷ 0 ∷ 0 ∷ 0 ∷ 0 ∷ 0 ∷ []

without_the_question : IsErrorResponse (question_text 7 1) Deadline (bare 130) → ⊥
without_the_question h = let lengths : 12 ≡ 21 = ap (λ (octets : List ℕ). length octets) (the_text (bare 130) h) in
    omega (arith, lengths)

-- REFUSED without a route
refused : IsErrorResponse (question_text 7 1) NoRoute (failure_with 7 5)
unfolding written ◌▹◌ each name_text first_question question_at octets_end name_within walk_in name_step
refused = (address a, refl, refl)

-- a message of unreadable format has no question to repeat
of_no_format : IsErrorResponse (question_text 7 1) BadFormat (bare 129)
unfolding written ◌▹◌ each name_text
of_no_format = refl

of_no_format_with_a_question : IsErrorResponse (question_text 7 1) BadFormat (failure_with 7 1) → ⊥
unfolding written ◌▹◌ each name_text
of_no_format_with_a_question h = let lengths : 21 ≡ 12 = ap (λ (octets : List ℕ). length octets) h in
    omega (arith, lengths)

-- ---- whether more is due

abbrev passes : ℕ → Step
passes now = step_of now [] tick []

-- the first step is over, and no step owns a reply
abbrev none_owned : List (List ℕ)
none_owned = [] ∷ [] ∷ []

-- the ask is due from 2500 on, so a step may report nothing due until 2499
nothing_due_before : TellsMore config (passes 2499 ∷ asked ∷ []) none_owned
nothing_due_before = ((tt, refl), refl)

more_is_due : TellsMore config (passes 2500 ∷ asked ∷ []) none_owned → ⊥
more_is_due h = true≢false (sym h.1)

-- a question is due at its deadline, here after 500 milliseconds, unless it owns a reply
abbrev hasty : Config
hasty = record config { limits = record config.limits { deadline_ms = 500 } }

no_question_due_before : TellsMore hasty (passes 1499 ∷ asked ∷ []) none_owned
no_question_due_before = ((tt, refl), refl)

a_question_is_due : TellsMore hasty (passes 1500 ∷ asked ∷ []) none_owned → ⊥
a_question_is_due h = true≢false (sym h.1)

no_answered_question_is_due : TellsMore hasty (passes 1500 ∷ asked ∷ []) ((0 ∷ []) ∷ [] ∷ [])
no_answered_question_is_due = ((tt, refl), refl)

-- ---- owners for each step

for_each_step : Sound config [] []
for_each_step = tt

a_step_without_owners : Sound config (asked ∷ []) [] → ⊥
a_step_without_owners h = h

owners_without_a_step : Sound config [] ([] ∷ []) → ⊥
owners_without_a_step h = h

-- a step without a reply owns nothing
a_step_that_replies_nothing : Sound config (asked ∷ []) ([] ∷ [])
a_step_that_replies_nothing = (tt, refl, λ q octets hit. tt)

owners_of_no_reply : Sound config (asked ∷ []) ((0 ∷ []) ∷ []) → ⊥
owners_of_no_reply h = let lengths : 1 ≡ 0 = ap (λ (is : List ℕ). length is) h.1 in omega (arith, lengths)
