-- Failed tries, computed: the last tries of a question, whatever else failed since; no try before
-- an accepted reply, and none before a restart.
use Rattle.std.proofs.Common.{◌≡◌, ℕ, ◌∙◌, List, [], ◌∷◌, Bool, true, false, cond, Some, None, refl, sym, ap}
use Rattle.std.proofs.Common.{inl, inr, arith, ◌⊎◌}
use Rattle.std.proofs.lemmas.Bool.{true≢false}
use Rattle.dns_message.specs.Names.{step as name_step, walk_in, name_within}
use Rattle.dns_message.specs.Records.{octets_end, question_at}
use Rattle.dns_message.specs.Messages.{first_question}
use Rattle.dns_message.specs.Questions.{one_question, same_question}
use Rattle.dns_message.specs.Values.{Question}
use Rattle.outstanding.specs.declared.ask.Path.TheVariants.{Udp}
use Rattle.step_values.specs.Values.{from_client, tick, restart, ask_udp, close_udp, Step}
use Rattle.step_history.specs.History.{ShownAsk, closes_path}
use Rattle.step_history.specs.Causes.{ClosesAsk, LastFailed}
use Rattle.step_table.proofs.Played.{a, b, address, server}
use Rattle.worked_claims.proofs.Texts.{question_text, client, step_of}
use Rattle.worked_claims.proofs.Silent.{nothing_heard}
use Rattle.worked_claims.proofs.Accepted.{asked, ask}
use Rattle.worked_claims.proofs.Failures.{the_first_closes_none}
use Rattle.worked_claims.proofs.SecondReply.{c, heard_again, five_seconds, second_carries}

-- ---- two asks of a.e failed

-- the first ask's time is over, and a second ask goes out; then the second ask's time is over
abbrev retries : Step
retries = step_of 2500 [] tick (close_udp 1032 ∷ ask_udp 1040 server (question_text 16 1) ∷ [])

abbrev gives_up : Step
gives_up = step_of 4000 [] tick (close_udp 1040 ∷ [])

abbrev second_ask : ShownAsk
second_ask = record { path = Udp 1040; server = server; octets = question_text 16 1; moment = 2500 }

retries_close_it : ClosesAsk (address a) retries (asked ∷ [])
unfolding first_question question_at octets_end name_within walk_in name_step
retries_close_it = record { ask = ask; asked = address a; is_listed = refl; closed = refl; reads = refl; same = refl }

the_second_is_closed : ClosesAsk (address a) gives_up (retries ∷ asked ∷ [])
unfolding first_question question_at octets_end name_within walk_in name_step
the_second_is_closed =
    record { ask = second_ask; asked = address a; is_listed = refl; closed = refl; reads = refl; same = refl }

two_failed : LastFailed c (address a) (gives_up ∷ retries ∷ asked ∷ []) 2
two_failed = (
  refl,
  inl (
    the_second_is_closed,
    nothing_heard c gives_up (retries ∷ asked ∷ []) refl,
    (refl, inl (retries_close_it, nothing_heard c retries (asked ∷ []) refl, tt)),
  ),
)

-- ---- an ask for b.e next to the ask for a.e

abbrev text_of_b : ℕ → List ℕ
text_of_b id = 0 ∷ id ∷ 1 ∷ 0 ∷ 0 ∷ 1 ∷ 0 ∷ 0 ∷ 0 ∷ 0 ∷ 0 ∷ 0 ∷ 1 ∷ 98 ∷ 1 ∷ 101 ∷ 0 ∷ 0 ∷ 1 ∷ 0 ∷ 1 ∷ []

abbrev asks_for_b : Step
asks_for_b = step_of 1010 [] (from_client client (text_of_b 9)) (ask_udp 1040 server (text_of_b 16) ∷ [])

abbrev ask_of_b : ShownAsk
ask_of_b = record { path = Udp 1040; server = server; octets = text_of_b 16; moment = 1010 }

abbrev two_listed : List Step
two_listed = asks_for_b ∷ asked ∷ []

abbrev gives_up_a : Step
gives_up_a = step_of 2500 [] tick (close_udp 1032 ∷ [])

abbrev gives_up_b : Step
gives_up_b = step_of 2510 [] tick (close_udp 1040 ∷ [])

a_is_closed : ClosesAsk (address a) gives_up_a two_listed
unfolding first_question question_at octets_end name_within walk_in name_step
a_is_closed = record { ask = ask; asked = address a; is_listed = refl; closed = refl; reads = refl; same = refl }

-- a search in a list of two
one_of_two : (v w : Bool) (x y z : ShownAsk) → cond v (Some x) (cond w (Some y) None) ≡ Some z → (x ≡ z) ⊎ (y ≡ z)
one_of_two true w x y z is = inl cc
one_of_two false true x y z is = inr cc
one_of_two false false x y z is = absurd cc

-- a step closes an ask for the ask's own question
b_is_closed_alone : (before : List Step) (k : ClosesAsk (address a) gives_up_b before)
    → (ask ≡ k.ask) ⊎ (ask_of_b ≡ k.ask) → ⊥
unfolding first_question question_at octets_end name_within walk_in name_step
b_is_closed_alone before k (inl first) =
    true≢false (sym k.closed ∙ ap (λ (x : ShownAsk). closes_path x.path gives_up_b.outcome.actions) (sym first))
b_is_closed_alone before k (inr second) =
    let reads : Some (address b) ≡ Some k.asked = ap (λ (x : ShownAsk). one_question x.octets) second ∙ k.reads in
    let own : address b ≡ k.asked = cc in
    true≢false (sym k.same ∙ ap (λ (q : Question). same_question q (address a)) (sym own))

not_while_both_are_listed : ClosesAsk (address a) gives_up_b two_listed → ⊥
not_while_both_are_listed k = b_is_closed_alone two_listed k (one_of_two _ _ ask ask_of_b k.ask k.is_listed)

nor_when_it_is_listed_alone : ClosesAsk (address a) gives_up_b (gives_up_a ∷ two_listed) → ⊥
nor_when_it_is_listed_alone k = b_is_closed_alone (gives_up_a ∷ two_listed) k (inr (by _ k.is_listed))
  where
    by : (v : Bool) → cond v (Some ask_of_b) None ≡ Some k.ask → ask_of_b ≡ k.ask
    by true is = cc
    by false is = absurd cc

-- a failure of another question since makes no difference
what_failed_since : LastFailed c (address a) (gives_up_b ∷ gives_up_a ∷ two_listed) 1
what_failed_since = (
  refl,
  inr (
    nor_when_it_is_listed_alone,
    (refl, inl (a_is_closed, nothing_heard c gives_up_a two_listed refl, tt)),
  ),
)

-- if an ask goes out and nothing is closed, no ask fails
none_fails : (s : Step) (past : List Step) → ((x : ShownAsk) → closes_path x.path s.outcome.actions ≡ false)
    → (q : Question) → ClosesAsk q s past → ⊥
none_fails s past none q k = true≢false (sym k.closed ∙ none k.ask)

-- and b.e's failure is no failure of a.e
what_failed_of_another : LastFailed c (address a) (gives_up_b ∷ two_listed) 1 → ⊥
what_failed_of_another h = elim h.1 [
  | inl closes ↦ not_while_both_are_listed closes.0
  | inr none ↦ before none.1
]
  where
    at_first : LastFailed c (address a) (asked ∷ []) 1 → ⊥
    at_first h = elim h.1 [
      | inl closes ↦ the_first_closes_none (address a) closes.0
      | inr none ↦ none.1
    ]

    before : LastFailed c (address a) two_listed 1 → ⊥
    before h = elim h.1 [
      | inl closes ↦ none_fails asks_for_b (asked ∷ []) (λ x. refl) (address a) closes.0
      | inr none ↦ at_first none.1
    ]

-- ---- an accepted reply between two failures

abbrev third : Step
third = step_of 9000 [] (from_client client (question_text 7 1)) (ask_udp 1048 server (question_text 24 1) ∷ [])

abbrev third_ask : ShownAsk
third_ask = record { path = Udp 1048; server = server; octets = question_text 24 1; moment = 9000 }

abbrev third_fails : Step
third_fails = step_of 10500 [] tick (close_udp 1048 ∷ [])

-- the second ask got a reply
abbrev replied : List Step
replied = heard_again 2520 ∷ retries ∷ asked ∷ []

the_third_is_closed : ClosesAsk (address a) third_fails (third ∷ replied)
unfolding first_question question_at octets_end name_within walk_in name_step
the_third_is_closed =
    record { ask = third_ask; asked = address a; is_listed = refl; closed = refl; reads = refl; same = refl }

the_reply_closes_the_second : ClosesAsk (address a) (heard_again 2520) (retries ∷ asked ∷ [])
unfolding first_question question_at octets_end name_within walk_in name_step
the_reply_closes_the_second =
    record { ask = second_ask; asked = address a; is_listed = refl; closed = refl; reads = refl; same = refl }

one_failed_since : LastFailed c (address a) (third_fails ∷ third ∷ replied) 1
one_failed_since =
    (refl, inl (the_third_is_closed, nothing_heard c third_fails (third ∷ replied) refl, tt))

not_one_before_the_reply : LastFailed c (address a) (third_fails ∷ third ∷ replied) 2 → ⊥
not_one_before_the_reply h = elim h.1 [
  | inl closes ↦ asked_then closes.2
  | inr none ↦ none.0 the_third_is_closed
]
  where
    at_the_reply : LastFailed c (address a) replied 1 → ⊥
    at_the_reply h = elim h.1 [
      | inl closes ↦ closes.1 (five_seconds ∷ [])
          (second_carries 2520 2500 (retries ∷ asked ∷ []) refl (omega arith))
      | inr none ↦ none.0 the_reply_closes_the_second
    ]

    asked_then : LastFailed c (address a) (third ∷ replied) 1 → ⊥
    asked_then h = elim h.1 [
      | inl closes ↦ none_fails third replied (λ x. refl) (address a) closes.0
      | inr none ↦ at_the_reply none.1
    ]

-- ---- a restart between two failures

abbrev restarted : Step
restarted = step_of 2600 [] restart []

abbrev begun : List Step
begun = restarted ∷ gives_up_a ∷ asked ∷ []

-- the third ask goes out after the restart, and fails
the_only_one_is_closed : ClosesAsk (address a) third_fails (third ∷ begun)
unfolding first_question question_at octets_end name_within walk_in name_step
the_only_one_is_closed =
    record { ask = third_ask; asked = address a; is_listed = refl; closed = refl; reads = refl; same = refl }

one_failed_in_its_era : LastFailed c (address a) (third_fails ∷ third ∷ begun) 1
one_failed_in_its_era =
    (refl, inl (the_only_one_is_closed, nothing_heard c third_fails (third ∷ begun) refl, tt))

not_one_before_the_restart : LastFailed c (address a) (third_fails ∷ third ∷ begun) 2 → ⊥
not_one_before_the_restart h = elim h.1 [
  | inl closes ↦ asked_then closes.2
  | inr none ↦ none.0 the_only_one_is_closed
]
  where
    asked_then : LastFailed c (address a) (third ∷ begun) 1 → ⊥
    asked_then h = elim h.1 [
      | inl closes ↦ none_fails third begun (λ x. refl) (address a) closes.0
      | inr none ↦ true≢false none.1.0
    ]
