-- The claims that something is given: when a reply ends the asking, and how often is asked. Two
-- histories fail in one of these claims alone: the right reply is ignored, and one ask more than
-- `tries` is sent.
use Rattle.std.proofs.Common.{◌≡◌, ℕ, ◌<◌, List, [], ◌∷◌, Option, Some, None, false, refl, sym, ap, ◌∙◌, subst}
use Rattle.std.proofs.Common.{inl, inr, arith}
use Rattle.std.specs.Prelude.{zero, suc}
use Rattle.std.proofs.lemmas.Bool.{true≢false}
use Rattle.dns_message.specs.Names.{step as name_step, walk_in, name_within}
use Rattle.dns_message.specs.Records.{octets_end, question_at}
use Rattle.dns_message.specs.Messages.{first_question}
use Rattle.dns_message.specs.Questions.{one_question, same_question}
use Rattle.dns_message.specs.Values.{Question}
use Rattle.suffix_routes.specs.Values.{Config}
use Rattle.trust_rank.specs.Values.{found, ends_no_data, ends_denied, elsewhere, lame}
use Rattle.outstanding.specs.declared.ask.Path.TheVariants.{Udp}
use Rattle.step_values.specs.Values.{delivery, ask_udp, close_udp, Step}
use Rattle.step_history.specs.Causes.{NoneAsks, SendsAsk, FailedSoFar}
use Rattle.step_history.specs.Given.{EndsHere, EndsAsking, GivesWhatCame, IsOneOfTries, AsksFewTimes}
use Rattle.step_history.specs.History.{ShownAsk, Reads}
use Rattle.step_table.proofs.Played.{a, b, address, server, other_server, config}
use Rattle.theorem_use.specs.Service.{ServesTruly}
use Rattle.worked_claims.proofs.Neighbours.{HoldsButFor}
use Rattle.worked_claims.proofs.Texts.{question_text, step_of, only_closes, the_only_ask, none_listed}
use Rattle.worked_claims.proofs.Accepted.{asked, ask, answered, reply_text, piece, with_limits, reply_accepted}
use Rattle.worked_claims.proofs.Brought.{question_is}
use Rattle.worked_claims.proofs.EarlierTries.{retries, past, one_failed, none_failed}
use Rattle.worked_claims.proofs.Failures.{begun}
use Rattle.worked_claims.proofs.FirstStep.{word}
use Rattle.worked_claims.proofs.ReplyTo.{AcceptsTo}
use Rattle.worked_claims.proofs.InTurn.{first_turn}
use Rattle.worked_claims.proofs.SecondAsks.{all_else_holds}
use Rattle.worked_claims.proofs.TakenTurns.{takes_next}
use Rattle.worked_claims.proofs.Waiting.{hears, WaitsAlone, when_asked, when_heard}

-- ---- contents with an end

contents_end : EndsHere found × EndsHere ends_no_data × EndsHere ends_denied
contents_end = (tt, tt, tt)

another_name_follows : EndsHere (elsewhere b) → ⊥
another_name_follows never = never

a_lame_reply_ends_nothing : EndsHere lame → ⊥
a_lame_reply_ends_nothing never = never

-- ---- a step that ends the asking

-- the ask is closed, and the client answered
it_ends : EndsAsking answered (asked ∷ []) (address a)
it_ends = record { none_listed = tt; none_sent = λ q. only_closes }

-- the reply is ignored: its ask stays listed
abbrev ignored : Step
ignored = hears 1020 reply_text

still_listed : NoneAsks (address a) (ask ∷ []) → ⊥
unfolding first_question question_at octets_end name_within walk_in name_step
still_listed none = true≢false (none.0 (address a) refl)

and_ignored : HoldsButFor (NoneAsks (address a) (ask ∷ [])) (EndsAsking ignored (asked ∷ []) (address a))
and_ignored = (
  λ none. record { none_listed = none; none_sent = λ q never. never },
  λ h. still_listed h.none_listed,
)

-- the ask is closed, and another name is asked for
abbrev text_of_b : List ℕ
text_of_b = 0 ∷ 16 ∷ 1 ∷ 0 ∷ 0 ∷ 1 ∷ 0 ∷ 0 ∷ 0 ∷ 0 ∷ 0 ∷ 0 ∷ 1 ∷ 98 ∷ 1 ∷ 101 ∷ 0 ∷ 0 ∷ 1 ∷ 0 ∷ 1 ∷ []

abbrev asks_on : Step
asks_on = step_of 1020 [] (delivery (Udp 1032) server reply_text)
    (close_udp 1032 ∷ ask_udp 1040 server text_of_b ∷ [])

of_another_name : (own : Question) → Reads text_of_b own → same_question own (address a) ≡ false
unfolding first_question question_at octets_end name_within walk_in name_step
of_another_name own reads = ap (λ (q : Question). same_question q (address a)) (sym (question_is (address b) own reads))

sends_b : SendsAsk (address b) asks_on.outcome.actions
unfolding first_question question_at octets_end name_within walk_in name_step
sends_b = inr (inl (address b, refl, refl))

and_another_asked : HoldsButFor ((q : Question) → SendsAsk q asks_on.outcome.actions → ⊥)
    (EndsAsking asks_on (asked ∷ []) (address a))
and_another_asked = (
  λ none. record { none_listed = (of_another_name, tt); none_sent = none },
  λ h. h.none_sent (address b) sends_b,
)

-- ---- a right reply is ignored, and all else holds

not_given : ServesTruly config (asked ∷ ignored ∷ []) → ⊥
unfolding first_question question_at octets_end name_within walk_in name_step
not_given h = still_listed (subst (λ (q : Question). NoneAsks q (ask ∷ [])) (sym is) ended.none_listed)
  where
    accepted : AcceptsTo config ignored (asked ∷ []) (piece ∷ []) [] found
    accepted = reply_accepted 4 0 ignored (asked ∷ []) (refl, refl, omega arith)

    ended : EndsAsking ignored (asked ∷ []) accepted.accepts.asked
    ended = h.given.1 (piece ∷ []) [] accepted.accepts (subst EndsHere (sym accepted.end_is) tt)

    -- the ask of its path is the listed ask
    its_ask : ask ≡ accepted.accepts.ask
    its_ask = the_only_ask _ ask accepted.accepts.ask accepted.accepts.matches.is_listed

    is : address a ≡ accepted.accepts.asked
    is = question_is (address a) accepted.accepts.asked (ap (λ (x : ShownAsk). one_question x.octets) its_ask
        ∙ accepted.accepts.matches.ask_reads)

but_for_what_came : GivesWhatCame config (ignored ∷ asked ∷ []) → ServesTruly config (asked ∷ ignored ∷ [])
but_for_what_came given = record {
  sound = record { owners = [] ∷ [] ∷ []; sound = waits.sound; tells = waits.tells; few = omega arith };
  asks = waits.asks;
  given = waits.given;
  tries = waits.tries;
  places = waits.places;
  turns = waits.turns;
  waiting = waits.waiting;
  uses = waits.uses;
  used = [] ∷ [] ∷ [];
  recent = waits.recent;
}
  where
    waits : WaitsAlone (ignored ∷ asked ∷ []) ([] ∷ [] ∷ []) ([] ∷ [] ∷ [])
    waits = when_heard 1020 reply_text (asked ∷ []) ([] ∷ []) ([] ∷ []) refl given.1 when_asked

-- ---- a listed ask is one of the tries

abbrev second_ask : ShownAsk
second_ask = record { path = Udp 1040; server = other_server; octets = question_text 16 1; moment = 2500 }

-- one failure before the second ask, of four tries
it_is_a_try : IsOneOfTries config past second_ask
unfolding first_question question_at octets_end name_within walk_in name_step
it_is_a_try =
    record { question = address a; reads = refl; before = 1; failed = one_failed config (omega arith); few = omega arith }

abbrev one_try : Config
one_try = with_limits 1 0

its_question : (q : Question) → Reads (question_text 16 1) q → address a ≡ q
unfolding first_question question_at octets_end name_within walk_in name_step
its_question q reads = question_is (address a) q reads

-- the only failure before it is one too many for a single try
too_many : IsOneOfTries one_try past second_ask → ⊥
too_many h =
    let none : h.before ≡ 0 = let few = h.few in omega (arith, few) in
    none_failed one_try (subst (λ (z : Question × ℕ). FailedSoFar one_try z.0 past z.1)
    (λ i. (sym (its_question h.question h.reads) i, none i)) h.failed)

with_a_single_try : HoldsButFor (1 < 1) (IsOneOfTries one_try past second_ask)
unfolding first_question question_at octets_end name_within walk_in name_step
with_a_single_try = (
  λ few. record { question = address a; reads = refl; before = 1; failed = one_failed one_try (omega arith); few = few },
  too_many,
)

-- of another name nothing was asked
never_asked : (before : ℕ) → FailedSoFar config (address b) (asked ∷ []) before → ⊥
unfolding first_question question_at octets_end name_within walk_in name_step
never_asked zero h = elim h.1 [
  | inl begins ↦ elim begins.0 [
    | inl sends ↦ true≢false (sym sends.2 ∙ ap (λ (q : Question). same_question q (address b)) (sym (question_is (address a) sends.0 sends.1)))
    | inr never ↦ never
  ]
  | inr left ↦ left.1
]
never_asked (suc k) h = elim h.1 [
  | inl failed ↦ none_listed failed.0.closes.is_listed
  | inr left ↦ left.1
]

of_b : (q : Question) → Reads text_of_b q → address b ≡ q
unfolding first_question question_at octets_end name_within walk_in name_step
of_b q reads = question_is (address b) q reads

of_a_name_not_asked : HoldsButFor (FailedSoFar config (address b) (asked ∷ []) 0)
    (IsOneOfTries config (asked ∷ []) (record ask { octets = text_of_b }))
unfolding first_question question_at octets_end name_within walk_in name_step
of_a_name_not_asked = (
  λ failed. record { question = address b; reads = refl; before = 0; failed = failed; few = omega arith },
  λ h. never_asked h.before (subst (λ (q : Question). FailedSoFar config q (asked ∷ []) h.before) (sym (of_b h.question h.reads)) h.failed),
)

-- and no question is read from no octets
nothing_read : (q : Question) → Reads [] q → ⊥
unfolding first_question question_at octets_end name_within walk_in name_step
nothing_read q reads = absurd (let none : ◌≡◌ {A = Option Question} None (Some q) = reads in cc)

of_no_question : HoldsButFor (Reads [] (address a)) (IsOneOfTries config (asked ∷ []) (record ask { octets = [] }))
of_no_question = (
  λ reads. record { question = address a; reads = reads; before = 0; failed = begun config; few = omega arith },
  λ h. nothing_read h.question h.reads,
)

-- ---- a second ask for a single try, and all else holds

too_often : ServesTruly one_try (asked ∷ retries ∷ []) → ⊥
too_often h = too_many h.tries.1.0

but_for_its_tries : AsksFewTimes one_try past → ServesTruly one_try (asked ∷ retries ∷ [])
but_for_its_tries tries = all_else_holds 1 other_server 1 refl tries (1 ∷ 0 ∷ []) (
  first_turn one_try.limits false word,
  (tt, (takes_next 1, tt)),
)
