-- The final failures of a question, computed: all tries, the deadline, and an answer too large;
-- with neighbours a try, a step, a question, a millisecond or an octet away.
use Rattle.std.proofs.Common.{◌≡◌, ℕ, ◌+◌, ◌<◌, ◌≤◌, List, [], ◌∷◌, ◌++◌, length, Bool, Some, true, false, refl, sym, ap, ◌∙◌, subst, inl, inr, arith, length-append}
use Rattle.std.proofs.lemmas.Bool.{true≢false}
use Rattle.dns_message.specs.Names.{step as name_step, walk_in, name_within}
use Rattle.dns_message.specs.Records.{octets_end, question_at}
use Rattle.dns_message.specs.Messages.{first_question}
use Rattle.dns_message.specs.Questions.{one_question, same_question}
use Rattle.dns_message.specs.Header.{header_in}
use Rattle.dns_message.specs.Values.{Question}
use Rattle.dns_message.specs.Writing.{◌▹◌, each, name_text, data_text, with_length, written}
use Rattle.dns_message.specs.Shapes.{shape_of}
use Rattle.suffix_routes.specs.declared.peer.Peer.{Peer}
use Rattle.suffix_routes.specs.Values.{Config}
use Rattle.trust_rank.specs.Values.{rows}
use Rattle.record_cache.specs.Values.{Held}
use Rattle.outstanding.specs.declared.ask.Path.TheVariants.{Udp}
use Rattle.step_values.specs.declared.event.Client.{Client}
use Rattle.step_values.specs.declared.event.Client.TheVariants.{Udp as FromUdp}
use Rattle.step_values.specs.declared.action.Why.TheVariants.{Exhausted, Deadline, TooLarge, Answered, Stale, LocalDenied}
use Rattle.step_values.specs.Values.{Event, from_client, delivery, tick, ask_udp, close_udp, Step}
use Rattle.step_history.specs.History.{Look, ShownAsk, moment_at}
use Rattle.step_history.specs.Answers.{Chain}
use Rattle.step_history.specs.Replies.{answer_text, full_text, stale_sections}
use Rattle.answer_builder.specs.Values.{asked_in}
use Rattle.step_history.specs.Stale.{StaleChain}
use Rattle.step_history.specs.Causes.{Cause, AllTriesFailed, ClosesAsk, LastFailed, MayFail, FailedSoFar, AnswerIsTooLarge}
use Rattle.step_history.specs.Causes.{StaleAnswerIsTooLarge}
use Rattle.step_table.proofs.Played.{a, b, address, server, config}
use Rattle.worked_claims.proofs.Texts.{question_text, client, stream_client, step_of, the_only_ask, none_listed}
use Rattle.worked_claims.proofs.Silent.{nothing_heard}
use Rattle.worked_claims.proofs.Accepted.{asked, ask, piece, answered, reply_text, carries}

-- ---- all tries failed

abbrev with_tries : ℕ → Config
with_tries tries = record config { limits = record config.limits { tries = tries } }

-- the ask's time is over
abbrev gave_up : Step
gave_up = step_of 2500 [] tick (close_udp 1032 ∷ [])

abbrev passes : ℕ → Step
passes now = step_of now [] tick []

abbrev after : ℕ → List Step → Look
after tries now = record { config = with_tries tries; asked = asked; before = []; now = now }

closes_it : ClosesAsk (address a) gave_up (asked ∷ [])
unfolding first_question question_at octets_end name_within walk_in name_step
closes_it = record { ask = ask; asked = address a; is_listed = refl; closed = refl; reads = refl; same = refl }

-- the ask's 1,500 milliseconds are over
time_is_over : MayFail (with_tries 1) gave_up (asked ∷ []) ask (address a)
time_is_over = inr (inr (refl, omega arith))

-- nothing was asked before
pub begun : (c : Config) → FailedSoFar c (address a) (asked ∷ []) 0
unfolding first_question question_at octets_end name_within walk_in name_step
begun c = (refl, inl (inl (address a, refl, refl), inl tt))

one_try_failed : Cause (after 1 (gave_up ∷ asked ∷ [])) client (question_text 7 1) 0 Exhausted
unfolding first_question question_at octets_end name_within walk_in name_step closes_it
one_try_failed = record {
  question = address a;
  reads = refl;
  aliases = [];
  last = address a;
  leads = record { few = omega arith; follows = refl };
  failed = (
    record { closes = closes_it; quiet = nothing_heard (with_tries 1) gave_up (asked ∷ []) refl; why = time_is_over },
    begun (with_tries 1),
  );
  none_left = tt;
}

-- no ask came before the first
pub the_first_closes_none : (q : Question) → ClosesAsk q asked [] → ⊥
the_first_closes_none q h = none_listed h.is_listed

-- a single failed ask is not two failed tries
one_of_two_tries_failed : Cause (after 2 (gave_up ∷ asked ∷ [])) client (question_text 7 1) 0 Exhausted → ⊥
one_of_two_tries_failed h = elim h.failed.1.1 [
  | inl failed ↦ the_first_closes_none h.last failed.0.closes
  | inr left ↦ left.1
]

-- an ask closed by an accepted reply did not fail
the_accepted_did_not_fail : LastFailed config (address a) (answered ∷ asked ∷ []) 1 → ⊥
unfolding first_question question_at octets_end name_within walk_in name_step
the_accepted_did_not_fail h = elim h.1 [
  | inl closes ↦ closes.1 (piece ∷ []) (carries 4 0)
  | inr none ↦ none.0
      (record { ask = ask; asked = address a; is_listed = refl; closed = refl; reads = refl; same = refl })
]

-- the reply comes in the step of the last failure
a_step_after_the_last_failure : Cause (after 1 (passes 2501 ∷ gave_up ∷ asked ∷ [])) client
    (question_text 7 1) 0 Exhausted
    → ⊥
a_step_after_the_last_failure h = none_listed h.failed.0.closes.is_listed

-- and not while the ask is open
before_the_last_failure : Cause (after 1 (passes 2499 ∷ asked ∷ [])) client (question_text 7 1) 0 Exhausted → ⊥
before_the_last_failure h = true≢false (sym h.failed.0.closes.closed)

-- the ask of another question failed
abbrev text_of_b : List ℕ
text_of_b = 0 ∷ 8 ∷ 1 ∷ 0 ∷ 0 ∷ 1 ∷ 0 ∷ 0 ∷ 0 ∷ 0 ∷ 0 ∷ 0 ∷ 1 ∷ 98 ∷ 1 ∷ 101 ∷ 0 ∷ 0 ∷ 1 ∷ 0 ∷ 1 ∷ []

abbrev asked_b : Step
asked_b = step_of 1000 [] (from_client client text_of_b) (ask_udp 1032 server text_of_b ∷ [])

another_question_failed : ClosesAsk (address a) gave_up (asked_b ∷ []) → ⊥
unfolding first_question question_at octets_end name_within walk_in name_step
another_question_failed h =
    let same : record ask { octets = text_of_b } ≡ h.ask =
    the_only_ask _ (record ask { octets = text_of_b }) h.ask h.is_listed in
    let reads : Some (address b) ≡ Some h.asked = ap (λ (x : ShownAsk). one_question x.octets) same ∙ h.reads in
    let own : address b ≡ h.asked = cc in
    true≢false (sym h.same ∙ ap (λ (q : Question). same_question q (address a)) (sym own))

-- ---- the deadline

at_the_deadline : Cause (after 4 (passes 9000 ∷ asked ∷ [])) client (question_text 7 1) 0 Deadline
at_the_deadline = record { passed = refl; late = omega arith }

a_millisecond_early : Cause (after 4 (passes 8999 ∷ asked ∷ [])) client (question_text 7 1) 0 Deadline → ⊥
a_millisecond_early h = let late : 9000 ≤ 8999 = h.late in omega (arith, late)

-- octets came from a server at this moment
abbrev hears : Step
hears = step_of 9000 [] (delivery (Udp 1032) server reply_text) []

abbrev is_tick : Event → Bool
is_tick tick = true
is_tick (from_client to octets) = false
is_tick (delivery path from octets) = false
is_tick e = false

by_a_delivery : Cause (after 4 (hears ∷ asked ∷ [])) client (question_text 7 1) 0 Deadline → ⊥
by_a_delivery h = true≢false (sym (ap is_tick h.passed))

-- ---- an answer too large

-- a set of a single record of type 1000, with this opaque data
abbrev pub large : List ℕ → Held
large octets = record {
  piece = record {
    owner = a;
    slot = record { key = a; class = 1; kind = Some 1000 };
    body = rows (octets ∷ []);
    lifetime = 60;
    rank = 3;
    route = 0;
  };
  accepted = 1020;
}

abbrev pub of_1000 : Question
of_1000 = record (address a) { kind = 1000 }

abbrev pub text_of_1000 : List ℕ
text_of_1000 = 0 ∷ 7 ∷ 1 ∷ 0 ∷ 0 ∷ 1 ∷ 0 ∷ 0 ∷ 0 ∷ 0 ∷ 0 ∷ 0 ∷ 1 ∷ 97 ∷ 1 ∷ 101 ∷ 0 ∷ 3 ∷ 232 ∷ 0 ∷ 1 ∷ []

abbrev pub answer_of : List ℕ → ℕ → List ℕ
answer_of octets t = answer_text (asked_in (header_in text_of_1000) (Some of_1000)) [] (large octets) t

pub answer_takes : (octets : List ℕ) (t : ℕ) → length (answer_of octets t) ≡ 33 + length octets
unfolding written ◌▹◌ each name_text data_text with_length shape_of
answer_takes octets t =
    let one = length-append octets [] in
    let two = length-append (octets ++ []) [] in
    let three = length-append ((octets ++ []) ++ []) [] in
    omega (arith, one, two, three)

-- 65,536 octets over TCP, and 65,535
too_large_by_an_octet : (l : Look) (octets : List ℕ) → Chain l of_1000 [] (large octets) → length octets ≡ 65503
    → Cause l stream_client text_of_1000 0 TooLarge
unfolding first_question question_at octets_end name_within walk_in name_step
too_large_by_an_octet l octets chain many = inl (record {
  question = of_1000;
  aliases = [];
  end = large octets;
  reads = refl;
  chain = chain;
  large = let takes = answer_takes octets (moment_at l.now) in omega (arith, takes, many);
})

as_large_as_may_be : (l : Look) (octets : List ℕ) (h : AnswerIsTooLarge l text_of_1000) → h.aliases ≡ []
    → h.end ≡ large octets → length octets ≡ 65502 → ⊥
unfolding first_question question_at octets_end name_within walk_in name_step
as_large_as_may_be l octets h none end many =
    let reads : Some of_1000 ≡ Some h.question = h.reads in
    let own : of_1000 ≡ h.question = cc in
    let text : length
    (answer_text (asked_in (header_in text_of_1000) (Some h.question)) h.aliases h.end (moment_at l.now)) ≡ length
    (answer_of octets (moment_at l.now)) =
    λ k. length (answer_text (asked_in (header_in text_of_1000) (Some (sym own k))) (none k) (end k)
    (moment_at l.now)) in
    let takes = answer_takes octets (moment_at l.now) in
    let passes_it : 65535 < length (answer_of octets (moment_at l.now)) = subst (λ (n : ℕ). 65535 < n) text h.large in
    omega (arith, takes, many, passes_it)

-- an expired set takes as many octets, if sent within the window after all tries failed
stale_answer_takes : (octets : List ℕ) (t : ℕ)
    → length (full_text (asked_in (header_in text_of_1000) (Some of_1000)) (stale_sections t [] [] (large octets)))
    ≡ 33 + length octets
unfolding written ◌▹◌ each name_text data_text with_length shape_of
stale_answer_takes octets t =
    let one = length-append octets [] in
    let two = length-append (octets ++ []) [] in
    let three = length-append ((octets ++ []) ++ []) [] in
    omega (arith, one, two, three)

-- all parts of the cause but the length of the answer
pub record FailedAndEnded (l : Look) (octets : List ℕ) : Type 0 where
  pub tries : AllTriesFailed l text_of_1000
  pub question : tries.question ≡ of_1000
  pub no_alias : tries.aliases ≡ []
  pub last : tries.last ≡ of_1000
  pub chain : StaleChain l [] of_1000 [] (large octets)

too_large_past_its_end : (l : Look) (octets : List ℕ) → FailedAndEnded l octets → 1 ≤ l.config.limits.stale_s
    → length octets ≡ 65503 → Cause l stream_client text_of_1000 0 TooLarge
too_large_past_its_end l octets known window many = inr (inl (record {
  tries = known.tries;
  window = window;
  found = [];
  end = large octets;
  chain = subst (λ (z : List Held × Question). StaleChain l z.0 z.1 [] (large octets))
      (λ k. (sym known.no_alias k, sym known.last k)) known.chain;
  large = subst (λ (z : Question × List Held). 65535 < length (full_text
      (asked_in (header_in text_of_1000) (Some z.0)) (stale_sections (moment_at l.now) z.1 [] (large octets))))
      (λ k. (sym known.question k, sym known.no_alias k))
      (let takes = stale_answer_takes octets (moment_at l.now) in omega (arith, takes, many));
}))

without_a_window : (l : Look) (octets : List ℕ) → l.config.limits.stale_s ≡ 0 → StaleAnswerIsTooLarge l octets → ⊥
without_a_window l octets none h = let some = h.window in omega (arith, none, some)

as_large_as_may_be_past_its_end : (l : Look) (octets : List ℕ) (h : StaleAnswerIsTooLarge l text_of_1000)
    → h.tries.aliases ≡ [] → h.found ≡ [] → h.end ≡ large octets → length octets ≡ 65502 → ⊥
unfolding first_question question_at octets_end name_within walk_in name_step
as_large_as_may_be_past_its_end l octets h none past end many =
    let reads : Some of_1000 ≡ Some h.tries.question = h.tries.reads in
    let own : of_1000 ≡ h.tries.question = cc in
    let text : length (full_text (asked_in (header_in text_of_1000) (Some h.tries.question))
    (stale_sections (moment_at l.now) h.tries.aliases h.found h.end))
    ≡ length (full_text (asked_in (header_in text_of_1000) (Some of_1000))
    (stale_sections (moment_at l.now) [] [] (large octets))) =
    λ k. length (full_text (asked_in (header_in text_of_1000) (Some (sym own k)))
    (stale_sections (moment_at l.now) (none k) (past k) (end k))) in
    let takes = stale_answer_takes octets (moment_at l.now) in
    let passes_it = subst (λ (n : ℕ). 65535 < n) text h.large in
    omega (arith, takes, many, passes_it)

-- over UDP an answer is cut, and never too large
nothing_is_too_large_over_udp : (l : Look) (to : Peer) (octets : List ℕ) (waiting : ℕ)
    → Cause l (FromUdp to) octets waiting TooLarge → ⊥
nothing_is_too_large_over_udp l to octets waiting h = h

-- ---- no failure

answers_are_no_failures : (l : Look) (to : Client) (octets : List ℕ) (waiting : ℕ)
    → (Cause l to octets waiting Answered → ⊥) × (Cause l to octets waiting Stale → ⊥)
    × (Cause l to octets waiting LocalDenied → ⊥)
answers_are_no_failures l to octets waiting = (λ h. h, λ h. h, λ h. h)
