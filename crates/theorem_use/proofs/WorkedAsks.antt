-- Whom an ask serves, and an ask that follows a failed one, computed.
use Rattle.std.proofs.Common.{◌≡◌, ℕ, List, [], ◌∷◌, Bool, true, false, cond, refl, subst, sym, ap}
use Rattle.std.proofs.Common.{◌∙◌, ◌⊎◌, inl, inr, arith, Option, Some, None}
use Rattle.std.specs.List.{AllByRecursion}
use Rattle.dns_message.specs.Names.{step as name_step, walk_in, name_within}
use Rattle.dns_message.specs.Records.{octets_end, question_at}
use Rattle.dns_message.specs.Messages.{first_question}
use Rattle.dns_message.specs.Questions.{one_question}
use Rattle.dns_message.specs.Values.{Question}
use Rattle.outstanding.specs.declared.ask.Path.TheVariants.{Udp}
use Rattle.step_values.specs.Values.{from_client, Delivered, Action, ask_udp, close_udp, tick, Step}
use Rattle.step_history.specs.History.{InEra, ShownAsk, NothingAccepted}
use Rattle.step_history.specs.Causes.{ClosesAsk}
use Rattle.step_table.proofs.Played.{server, client, config}
use Rattle.theorem_use.specs.Asking.{AnyByRecursion, Wants, EachWants, Asks, WasListed}
use Rattle.theorem_use.specs.Asking.{OpensInquiry, FollowsFailed, IsSpelled, AsksForWaiting}
use Rattle.theorem_use.proofs.Worked.{example, a, address, doing, passes, message, step_at}

-- ---- whom an ask serves

-- a client asks for the address of a, and this is done
abbrev asks_address : List Action → Step
asks_address actions = step_at 1000 (from_client client (message 7 (1 ∷ 97 ∷ []) 1)) actions

-- an ask for the address of a name with this letter
abbrev ask_for : ℕ → Action
ask_for letter = ask_udp 1032 server (message 8 (1 ∷ letter ∷ []) 1)

abbrev shown_for : ℕ → ShownAsk
shown_for letter = record { path = Udp 1032; server = server; octets = message 8 (1 ∷ letter ∷ []) 1; moment = 1000 }

-- no ask was listed before the first step
none_listed : {x : ShownAsk} → ◌≡◌ {A = Option ShownAsk} None (Some x) → ⊥
none_listed is = absurd cc

-- the client's question, where this is done, wants the address of a
wants_it : (actions : List Action) (now : List Step) → InEra (asks_address actions ∷ []) now
    → Wants config now 0 (address a)
unfolding first_question question_at octets_end name_within walk_in name_step
wants_it actions now in_era = record {
  asked = asks_address actions;
  before = [];
  in_era = in_era;
  number = refl;
  client = client;
  request = message 7 (1 ∷ 97 ∷ []) 1;
  sent = refl;
  question = address a;
  reads = refl;
  aliases = [];
  leads = record { few = omega arith; follows = refl };
}

-- it waits, and the question that it wants is asked, in its spelling
waited_for : AsksForWaiting config (asks_address (ask_for 97 ∷ [])) [] []
unfolding first_question question_at octets_end name_within walk_in name_step
waited_for = record {
  wanted = address a ∷ [];
  each = (wants_it (ask_for 97 ∷ []) (asks_address (ask_for 97 ∷ []) ∷ []) (inl refl), tt);
  asked = (inl (record { question = address a; reads = refl; same = refl }), tt);
  wanting = (inl (record { question = address a; reads = refl; same = refl }), tt);
  spelled = (
    inr (record {
      question = address a;
      reads = refl;
      from = inl (record { anew = λ closes quiet. none_listed closes.is_listed; spelled = inl refl });
    }),
    tt,
  );
}

-- a question that waits, and nothing is asked
nothing_asked : AsksForWaiting config (asks_address []) [] [] → ⊥
nothing_asked h = by h.wanted h.each h.asked
  where
    by : (wanted : List Question) → EachWants config (asks_address [] ∷ []) (0 ∷ []) wanted
        → AllByRecursion (λ q. AnyByRecursion (λ a. Asks a q) []) wanted → ⊥
    by [] each asked = each
    by (q ∷ wanted) each asked = asked.0

-- an ask while nobody waits
nobody_waits : AsksForWaiting config (doing (ask_for 97 ∷ [])) [] [] → ⊥
nobody_waits h = by h.wanted h.each h.wanting
  where
    by : (wanted : List Question) → EachWants config (doing (ask_for 97 ∷ []) ∷ []) [] wanted
        → AllByRecursion (λ a. AnyByRecursion (Asks a) wanted) (record (shown_for 97) { moment = 2000 } ∷ []) → ⊥
    by [] each wanting = wanting.0
    by (q ∷ wanted) each wanting = each

-- the name with an upper case letter
abbrev upper : List (List ℕ)
upper = (65 ∷ []) ∷ example

-- the question that a text reads as
one_question_is : (q r : Question) → Some q ≡ Some r → q ≡ r
one_question_is q r is = cc

-- two spellings differ in letter case
not_spelled_alike : address a ≡ address upper → ⊥
not_spelled_alike same =
    let names : (97 ∷ []) ∷ example ≡ (65 ∷ []) ∷ example = ap (λ (q : Question). q.name) same in
    let letters : ◌≡◌ {A = ℕ} 97 65 = cc in
    omega (arith, letters)

-- asked with the upper case letter, all is right but the spelling
spelled_otherwise : IsSpelled config (asks_address (ask_for 65 ∷ [])) [] (address a ∷ []) (shown_for 65) → ⊥
unfolding first_question question_at octets_end name_within walk_in name_step
spelled_otherwise h = by h.from
  where
    question_is : address upper ≡ h.question
    question_is = one_question_is (address upper) h.question h.reads

    by : OpensInquiry config (asks_address (ask_for 65 ∷ [])) [] (address a ∷ []) h.question
        ⊎ FollowsFailed config (asks_address (ask_for 65 ∷ [])) [] h.question → ⊥
    by (inl opens) = elim opens.spelled [
      | inl same ↦ not_spelled_alike (same ∙ sym question_is)
      | inr none ↦ none
    ]
    by (inr follows) = none_listed follows.closes.is_listed

but_for_its_spelling :
    AllByRecursion (λ x. WasListed [] x ⊎ IsSpelled config (asks_address (ask_for 65 ∷ [])) [] (address a ∷ []) x)
    (shown_for 65 ∷ [])
    → AsksForWaiting config (asks_address (ask_for 65 ∷ [])) [] []
unfolding first_question question_at octets_end name_within walk_in name_step
but_for_its_spelling spelled = record {
  wanted = address a ∷ [];
  each = (wants_it (ask_for 65 ∷ []) (asks_address (ask_for 65 ∷ []) ∷ []) (inl refl), tt);
  asked = (inl (record { question = address upper; reads = refl; same = refl }), tt);
  wanting = (inl (record { question = address upper; reads = refl; same = refl }), tt);
  spelled = spelled;
}

-- an ask that stays listed keeps its spelling
stays_listed : AsksForWaiting config passes (asks_address (ask_for 97 ∷ []) ∷ []) []
unfolding first_question question_at octets_end name_within walk_in name_step
stays_listed = record {
  wanted = address a ∷ [];
  each = (wants_it (ask_for 97 ∷ []) (passes ∷ asks_address (ask_for 97 ∷ []) ∷ []) (inr (refl, inl refl)), tt);
  asked = (inl (record { question = address a; reads = refl; same = refl }), tt);
  wanting = (inl (record { question = address a; reads = refl; same = refl }), tt);
  spelled = (inl (inl refl), tt);
}

-- ---- an ask that follows a failed one

-- while the address of a is asked, it is asked for with the upper case letter too; then the ask
-- fails, and this is next
abbrev two_wait : List Step
two_wait = step_at 1010 (from_client client (message 9 (1 ∷ 65 ∷ []) 1)) [] ∷ asks_address (ask_for 97 ∷ []) ∷ []

abbrev asks_next : ℕ → Step
asks_next letter = step_at 2500 tick (close_udp 1032 ∷ ask_udp 1040 server (message 16 (1 ∷ letter ∷ []) 1) ∷ [])

abbrev next_for : ℕ → ShownAsk
next_for letter = record { path = Udp 1040; server = server; octets = message 16 (1 ∷ letter ∷ []) 1; moment = 2500 }

nothing_came : (letter : ℕ) → NothingAccepted config (asks_next letter) two_wait
nothing_came letter ps carries = by carries.accepts.matches.delivered
  where
    by : {d : Delivered} → ◌≡◌ {A = Option Delivered} None (Some d) → ⊥
    by is = absurd cc

-- the first ask, which it closed, was for a in this spelling
closes_first : (letter : ℕ) → ClosesAsk (address a) (asks_next letter) two_wait
unfolding first_question question_at octets_end name_within walk_in name_step
closes_first letter =
    record { ask = shown_for 97; asked = address a; is_listed = refl; closed = refl; reads = refl; same = refl }

closes_upper : (letter : ℕ) → ClosesAsk (address upper) (asks_next letter) two_wait
unfolding first_question question_at octets_end name_within walk_in name_step
closes_upper letter =
    record { ask = shown_for 97; asked = address a; is_listed = refl; closed = refl; reads = refl; same = refl }

first_wants : (letter : ℕ) → Wants config (asks_next letter ∷ two_wait) 0 (address a)
first_wants letter = wants_it (ask_for 97 ∷ []) (asks_next letter ∷ two_wait) (inr (refl, inr (refl, inl refl)))

second_wants : (letter : ℕ) → Wants config (asks_next letter ∷ two_wait) 1 (address upper)
unfolding first_question question_at octets_end name_within walk_in name_step
second_wants letter = record {
  asked = step_at 1010 (from_client client (message 9 (1 ∷ 65 ∷ []) 1)) [];
  before = asks_address (ask_for 97 ∷ []) ∷ [];
  in_era = inr (refl, inl refl);
  number = refl;
  client = client;
  request = message 9 (1 ∷ 65 ∷ []) 1;
  sent = refl;
  question = address upper;
  reads = refl;
  aliases = [];
  leads = record { few = omega arith; follows = refl };
}

-- the next ask is spelled as the failed one
goes_on_so : AsksForWaiting config (asks_next 97) two_wait []
unfolding first_question question_at octets_end name_within walk_in name_step
    closes_first
goes_on_so = record {
  wanted = address a ∷ address upper ∷ [];
  each = (first_wants 97, (second_wants 97, tt));
  asked = (
    inl (record { question = address a; reads = refl; same = refl }),
    (inl (record { question = address a; reads = refl; same = refl }), tt),
  );
  wanting = (inl (record { question = address a; reads = refl; same = refl }), tt);
  spelled = (
    inr (record {
      question = address a;
      reads = refl;
      from = inr (record { closes = closes_first 97; failed = nothing_came 97; spelled = refl });
    }),
    tt,
  );
}

-- not as another question that waits; all else is right
spelled_as_another : (wanted : List Question) → IsSpelled config (asks_next 65) two_wait wanted (next_for 65) → ⊥
unfolding first_question question_at octets_end name_within walk_in name_step
spelled_as_another wanted h = by h.from
  where
    question_is : address upper ≡ h.question
    question_is = one_question_is (address upper) h.question h.reads

    the_only_ask : (v : Bool) (x y : ShownAsk) → cond v (Some x) None ≡ Some y → x ≡ y
    the_only_ask true x y is = cc
    the_only_ask false x y is = absurd cc

    asked_so : (k : ClosesAsk h.question (asks_next 65) two_wait) → address a ≡ k.asked
    asked_so k =
        let same : shown_for 97 ≡ k.ask = the_only_ask _ (shown_for 97) k.ask k.is_listed in
        one_question_is (address a) k.asked (ap (λ (x : ShownAsk). one_question x.octets) same ∙ k.reads)

    by : OpensInquiry config (asks_next 65) two_wait wanted h.question
        ⊎ FollowsFailed config (asks_next 65) two_wait h.question → ⊥
    by (inl opens) =
        opens.anew (subst (λ (q : Question). ClosesAsk q (asks_next 65) two_wait) question_is (closes_upper 65))
        (nothing_came 65)
    by (inr follows) = not_spelled_alike (asked_so follows.closes ∙ follows.spelled ∙ sym question_is)

but_for_that_spelling :
    AllByRecursion
    (λ x. WasListed two_wait x ⊎ IsSpelled config (asks_next 65) two_wait (address a ∷ address upper ∷ []) x)
    (next_for 65 ∷ [])
    → AsksForWaiting config (asks_next 65) two_wait []
unfolding first_question question_at octets_end name_within walk_in name_step
but_for_that_spelling spelled = record {
  wanted = address a ∷ address upper ∷ [];
  each = (first_wants 65, (second_wants 65, tt));
  asked = (
    inl (record { question = address upper; reads = refl; same = refl }),
    (inl (record { question = address upper; reads = refl; same = refl }), tt),
  );
  wanting = (inl (record { question = address upper; reads = refl; same = refl }), tt);
  spelled = spelled;
}
