-- For each field of `ServesTruly`, except for the fields on use and those in `Given` and
-- `TakenTurns`, a history in which all else holds: a wrong reply, a wrong report, too many waiting
-- questions, a wrong ask, and a question without an ask.
use Rattle.std.proofs.Common.{◌≡◌, ℕ, ◌≤◌, List, [], ◌∷◌, true, false, Option, Some, None, refl, sym, ap, ◌∙◌, subst}
use Rattle.std.proofs.Common.{inl, inr, arith}
use Rattle.std.specs.Prelude.{zero, suc, length}
use Rattle.std.specs.List.{concat, AllByRecursion}
use Rattle.std.proofs.lemmas.Bool.{true≢false}
use Rattle.dns_message.specs.Names.{step as name_step, walk_in, name_within}
use Rattle.dns_message.specs.Records.{octets_end, question_at}
use Rattle.dns_message.specs.Messages.{first_question}
use Rattle.dns_message.specs.Values.{Question}
use Rattle.dns_message.specs.Writing.{each}
use Rattle.suffix_routes.specs.Values.{Config}
use Rattle.trust_rank.specs.declared.slot.Slot.{Slot}
use Rattle.record_cache.specs.Values.{Held}
use Rattle.step_values.specs.declared.event.Client.{Client}
use Rattle.step_values.specs.declared.action.Why.TheVariants.{Deadline}
use Rattle.step_values.specs.Values.{from_client, tick, Event, send_reply, Step}
use Rattle.step_history.specs.History.{ShownAsk, listed}
use Rattle.step_history.specs.Asked.{AsksWell}
use Rattle.step_history.specs.Given.{IsOneOfTries}
use Rattle.step_history.specs.Accounting.{TellsMore}
use Rattle.step_history.specs.Sound.{Replies, Sound, unanswered}
use Rattle.step_table.proofs.Played.{a, address, config}
use Rattle.theorem_use.specs.Asking.{AnyByRecursion, EachWants, Asks, AsksForWaiting, AsksForThoseWhoWait}
use Rattle.theorem_use.specs.Service.{ServesTruly}
use Rattle.theorem_use.specs.Use.{AsksToLookUp, IsKnown, UsesWhatStands}
use Rattle.theorem_use.specs.Touched.{Touched, TouchedInEra}
use Rattle.theorem_use.specs.Recent.{IsRecent, IsAnsweredByRecent, UsesWhatIsRecent}
use Rattle.worked_claims.proofs.Texts.{question_text, client, step_of}
use Rattle.worked_claims.proofs.Silent.{nothing_heard, nothing_came, nothing_carried}
use Rattle.worked_claims.proofs.Brought.{looks_up_no_other, wants_it}
use Rattle.worked_claims.proofs.FirstStep.{first, word, asks_it, with_questions, asked_for, asks_right, first_try}
use Rattle.worked_claims.proofs.FirstStep.{uses_nothing, uses_no_slot, only_asks}
use Rattle.worked_claims.proofs.InTurn.{first_turn}

-- ---- a wrong reply: the failure of a deadline, without a tick

abbrev fails_early : Step
fails_early = first false word (send_reply client [] Deadline ∷ [])

not_sound : ServesTruly config (fails_early ∷ []) → ⊥
not_sound h = by h.sound.owners h.sound.sound
  where
    no_tick : {octets : List ℕ} → ◌≡◌ {A = Event} (from_client client octets) tick → ⊥
    no_tick is = absurd cc

    by : (w : List (List ℕ)) → Sound config (fails_early ∷ []) w → ⊥
    by [] s = s
    by ([] ∷ w) s = s.1
    by ((i ∷ is) ∷ w) s = let own = s.1.0 in no_tick own.right.1.passed

-- the reply is no answer
only_fails : (octets : List ℕ) → Replies fails_early.outcome.actions octets → ⊥
only_fails octets (inl (is, same)) = absurd cc
only_fails octets (inr never) = never

but_for_soundness : Sound config (fails_early ∷ []) ((0 ∷ []) ∷ []) → ServesTruly config (fails_early ∷ [])
but_for_soundness sound = record {
  sound = record { owners = (0 ∷ []) ∷ []; sound = sound; tells = (tt, refl); few = omega arith };
  asks = (tt, tt, omega arith, (tt, tt));
  given = (tt, nothing_came config fails_early [] refl);
  tries = (tt, tt);
  places = 0 ∷ [];
  turns = (tt, (tt, tt));
  waiting = (tt, record { wanted = []; each = tt; asked = tt; wanting = tt; spelled = tt });
  uses = uses_nothing config false word (send_reply client [] Deadline ∷ []) (0 ∷ []);
  used = [] ∷ [];
  recent = uses_no_slot config false word (send_reply client [] Deadline ∷ []) (0 ∷ []) only_fails;
}

-- ---- a step reporting more due, with nothing due

abbrev tells_more : Step
tells_more = first true word asks_it

not_telling : ServesTruly config (tells_more ∷ []) → ⊥
not_telling h = by h.sound.owners h.sound.sound h.sound.tells
  where
    by : (w : List (List ℕ)) → Sound config (tells_more ∷ []) w → TellsMore config (tells_more ∷ []) w → ⊥
    by [] s tells = s
    by ([] ∷ []) s tells = true≢false tells.1
    by ([] ∷ (is ∷ w)) s tells = s.0
    by ((i ∷ is) ∷ w) s tells = let none : suc (length is) ≡ 0 = ap (λ (js : List ℕ). length js) s.1 in
        omega (arith, none)

but_for_what_it_tells : TellsMore config (tells_more ∷ []) ([] ∷ []) → ServesTruly config (tells_more ∷ [])
but_for_what_it_tells tells = record {
  sound = record { owners = [] ∷ []; sound = (tt, refl, λ q octets hit. tt); tells = tells; few = omega arith };
  asks = asks_right config.limits true (omega arith);
  given = (tt, nothing_came config tells_more [] refl);
  tries = first_try config true word (omega arith);
  places = 0 ∷ [];
  turns = first_turn config.limits true word;
  waiting = (tt, asked_for config true word);
  uses = uses_nothing config true word asks_it [];
  used = [] ∷ [];
  recent = uses_no_slot config true word asks_it [] only_asks;
}

-- ---- two questions, with room for one

abbrev one_may_wait : Config
one_may_wait = with_questions 1

abbrev joins : Step
joins = step_of 1010 [] (from_client client (question_text 9 1)) []

-- without a reply, no question owns a reply
none_owned : (c : Config) (w : List (List ℕ)) → Sound c (joins ∷ first false word asks_it ∷ []) w → w ≡ [] ∷ [] ∷ []
none_owned c [] s = absurd s
none_owned c (is ∷ []) s = absurd s.0
none_owned c (is ∷ (js ∷ [])) s = λ k. s.1 k ∷ (s.0.1 k ∷ [])
none_owned c (is ∷ (js ∷ (ks ∷ w))) s = absurd s.0.0

too_many_wait : ServesTruly one_may_wait (first false word asks_it ∷ joins ∷ []) → ⊥
too_many_wait h =
    let few : 2 ≤ 1 = subst (λ (w : List (List ℕ)). length
    (unanswered (joins ∷ first false word asks_it ∷ []) (concat w)) ≤ 1)
    (none_owned one_may_wait h.sound.owners h.sound.sound) h.sound.few in
    omega (arith, few)

abbrev joined : List Step
joined = joins ∷ first false word asks_it ∷ []

both_asked_for : AsksForWaiting one_may_wait joins (first false word asks_it ∷ []) []
unfolding first_question question_at octets_end name_within walk_in name_step
both_asked_for = record {
  wanted = address a ∷ address a ∷ [];
  each = (
    wants_it one_may_wait (first false word asks_it) 7 [] joined refl (inr (refl, inl refl)),
    (wants_it one_may_wait joins 9 (first false word asks_it ∷ []) joined refl (inl refl), tt),
  );
  asked = (
    inl (record { question = address a; reads = refl; same = refl }),
    (inl (record { question = address a; reads = refl; same = refl }), tt),
  );
  wanting = (inl (record { question = address a; reads = refl; same = refl }), tt);
  spelled = (inl (inl refl), tt);
}

-- the ask is still the first try
joins_the_first_try : AllByRecursion (IsOneOfTries one_may_wait joined) (listed joined)
unfolding first_question question_at octets_end name_within walk_in name_step
joins_the_first_try = (
  record {
    question = address a;
    reads = refl;
    before = 0;
    failed = (
      refl,
      inr (((λ k. true≢false (sym k.closed)), (λ never. never)), (refl, inl (inl (address a, refl, refl), inl tt))),
    );
    few = omega arith;
  },
  tt,
)

-- nothing was carried before the second either
joins_unknown : UsesWhatStands one_may_wait (joins ∷ first false word asks_it ∷ []) ([] ∷ [] ∷ [])
unfolding first_question question_at octets_end name_within walk_in name_step
joins_unknown = (
  uses_nothing one_may_wait false word asks_it [],
  λ asker q nothing asks is room known. absurd (by asker q nothing asks
      (nothing_carried one_may_wait (first false word asks_it ∷ []) nothing (refl, tt) is) known),
)
  where
    by : (asker : Client) (q : Question) (nothing : List Held) → AsksToLookUp one_may_wait joins asker q
        → nothing ≡ [] → IsKnown one_may_wait joins (first false word asks_it ∷ []) nothing q → ⊥
    by asker q nothing looks none known =
        let q_is : address a ≡ q = looks_up_no_other one_may_wait joins 9 refl asker q looks in
        subst (λ (z : Question × List Held). IsKnown one_may_wait joins (first false word asks_it ∷ []) z.1 z.0)
        (λ k. (sym q_is k, none k)) known

-- nothing was brought before the second either
abbrev nothing_touched : List Touched
nothing_touched = record { carried = []; used = []; unkept = 0 } ∷ []

none_brought : (o : Held) (slots : List Slot) → IsRecent 4096 nothing_touched o slots → ⊥
none_brought o slots (few, touches, inl brings) = brings.believed
none_brought o slots (few, touches, inr (keeps, inl (never, before, was))) = never
none_brought o slots (few, touches, inr (keeps, inr never)) = never

none_ready : (more : ℕ) (q : Question) → IsAnsweredByRecent one_may_wait 1010 nothing_touched more q → ⊥
none_ready zero q (o, end) = none_brought o end.ready.slots end.ready.recent
none_ready (suc more) q (inl (o, end)) = none_brought o end.ready.slots end.ready.recent
none_ready (suc more) q (inr (o, name, alias, rest)) = none_brought o alias.ready.slots alias.ready.recent

touched_nothing : (ts : List Touched) → TouchedInEra one_may_wait (first false word asks_it ∷ []) ([] ∷ []) ts
    → ts ≡ nothing_touched
touched_nothing ts (inl (restarts, none)) = absurd (true≢false (sym restarts))
touched_nothing ts (inr (runs, carried, before, inl (silent, none), era, is)) =
    is ∙ (λ i. record { carried = none i; used = []; unkept = 0 } ∷ era i)
touched_nothing ts (inr (runs, carried, before, inr (ps, k, these), era, is)) =
    absurd (nothing_heard one_may_wait (first false word asks_it) [] refl ps k)

joins_recent : UsesWhatIsRecent one_may_wait (joins ∷ first false word asks_it ∷ []) ([] ∷ [] ∷ []) ([] ∷ [] ∷ [])
joins_recent = (
  uses_no_slot one_may_wait false word asks_it [] only_asks,
  λ ts era. (
    inr (inr (record { none = refl; silent = λ q octets from. absurd from.1 })),
    λ asker q asks known. absurd (none_ready 8 q
        (subst (λ (z : List Touched). IsAnsweredByRecent one_may_wait 1010 z 8 q) (touched_nothing ts era) known)),
  ),
)

but_for_how_many_wait : 2 ≤ 1 → ServesTruly one_may_wait (first false word asks_it ∷ joins ∷ [])
but_for_how_many_wait few = record {
  sound = record {
    owners = [] ∷ [] ∷ [];
    sound = ((tt, refl, λ q octets hit. tt), refl, λ q octets hit. absurd hit.1);
    tells = ((tt, refl), refl);
    few = few;
  };
  asks = (asks_right one_may_wait.limits false (omega arith), (tt, tt), omega arith, tt);
  given = (
    (tt, nothing_came one_may_wait (first false word asks_it) [] refl),
    nothing_came one_may_wait joins (first false word asks_it ∷ []) refl,
  );
  tries = (first_try one_may_wait false word (omega arith), joins_the_first_try);
  places = 0 ∷ 0 ∷ [];
  turns = (first_turn one_may_wait.limits false word, tt);
  waiting = ((tt, asked_for one_may_wait false word), both_asked_for);
  uses = joins_unknown;
  used = [] ∷ [] ∷ [];
  recent = joins_recent;
}

-- ---- an ask drawn from no word

not_asking_well : ServesTruly config (first false [] asks_it ∷ []) → ⊥
not_asking_well h = none_drawn h.asks.3.0.0.drawn_so
  where
    none_drawn : {d : ℕ × ℕ} → ◌≡◌ {A = Option (ℕ × ℕ)} None (Some d) → ⊥
    none_drawn is = absurd cc

but_for_its_ask : AsksWell config (first false [] asks_it ∷ []) → ServesTruly config (first false [] asks_it ∷ [])
but_for_its_ask asks_so = record {
  sound = record { owners = [] ∷ []; sound = (tt, refl, λ q octets hit. tt); tells = (tt, refl); few = omega arith };
  asks = asks_so;
  given = (tt, nothing_came config (first false [] asks_it) [] refl);
  tries = first_try config false [] (omega arith);
  places = 0 ∷ [];
  turns = first_turn config.limits false [];
  waiting = (tt, asked_for config false []);
  uses = uses_nothing config false [] asks_it [];
  used = [] ∷ [];
  recent = uses_no_slot config false [] asks_it [] only_asks;
}

-- ---- a waiting question, with nothing asked

not_asked_for : ServesTruly config (first false word [] ∷ []) → ⊥
not_asked_for h = by h.sound.owners h.sound.sound h.waiting
  where
    unasked : (wanted : List Question) → EachWants config (first false word [] ∷ []) (0 ∷ []) wanted
        → AllByRecursion (λ q. AnyByRecursion {X = ShownAsk} (λ x. Asks x q) []) wanted → ⊥
    unasked [] each _ = each
    unasked (q ∷ wanted) each any = any.0

    none_owns : (is : List ℕ) → is ≡ [] → AsksForWaiting config (first false word []) [] (concat (is ∷ [])) → ⊥
    none_owns is none waits =
        let at : AsksForWaiting config (first false word []) [] [] =
        subst (λ (js : List ℕ). AsksForWaiting config (first false word []) [] (concat (js ∷ []))) none waits in
        unasked at.wanted at.each at.asked

    by : (w : List (List ℕ)) → Sound config (first false word [] ∷ []) w
        → AsksForThoseWhoWait config (first false word [] ∷ []) w → ⊥
    by [] s waits = s
    by (is ∷ []) s waits = none_owns is s.1 waits.1
    by (is ∷ (js ∷ w)) s waits = s.0

but_for_what_is_asked : AsksForThoseWhoWait config (first false word [] ∷ []) ([] ∷ [])
    → ServesTruly config (first false word [] ∷ [])
but_for_what_is_asked waits = record {
  sound = record { owners = [] ∷ []; sound = (tt, refl, λ q octets hit. tt); tells = (tt, refl); few = omega arith };
  asks = (tt, tt, omega arith, tt);
  given = (tt, nothing_came config (first false word []) [] refl);
  tries = (tt, tt);
  places = 0 ∷ [];
  turns = (tt, tt);
  waiting = waits;
  uses = uses_nothing config false word [] [];
  used = [] ∷ [];
  recent = uses_no_slot config false word [] [] (λ octets never. never);
}
