-- Pieces that stand, room for them, questions that are known, answers at once, and the headline,
-- computed.
use Rattle.std.proofs.Common.{◌≡◌, ℕ, ◌+◌, ◌≤◌, List, [], ◌∷◌, ◌++◌, length, false, refl}
use Rattle.std.proofs.Common.{subst, sym, ap, ◌∙◌, ◌⊎◌, inl, inr, arith, Option, Some, None}
use Rattle.std.proofs.lemmas.Bool.{true≢false}
use Rattle.std.specs.List.{AllByRecursion}
use Rattle.dns_message.specs.Data.{name_of_rdata}
use Rattle.dns_message.specs.Names.{step as name_step, walk_in, name_within}
use Rattle.dns_message.specs.Records.{octets_end, question_at}
use Rattle.dns_message.specs.Messages.{first_question}
use Rattle.dns_message.specs.Questions.{one_question}
use Rattle.dns_message.specs.Values.{Question}
use Rattle.suffix_routes.specs.Routes.{route_of}
use Rattle.suffix_routes.specs.Values.{IsConfig}
use Rattle.outstanding.specs.declared.ask.Path.TheVariants.{Udp}
use Rattle.trust_rank.specs.declared.slot.Slot.{Slot}
use Rattle.trust_rank.specs.Values.{rows, denied}
use Rattle.record_cache.specs.Values.{Held}
use Rattle.step_values.specs.declared.event.Client.{Client}
use Rattle.step_values.specs.declared.action.Why.TheVariants.{Answered, Deadline, TooLarge}
use Rattle.step_values.specs.Values.{Request, from_client, delivery, Action, ask_udp, send_reply}
use Rattle.step_values.specs.Values.{tick, restart, Event, Step}
use Rattle.step_history.specs.History.{Sends}
use Rattle.step_history.specs.Carried.{CarriedInEra}
use Rattle.step_history.specs.Sound.{RightReply}
use Rattle.step_history.proofs.CacheLaws.CallerLemmas.{serves_exactly}
use Rattle.theorem_sound.proofs.CallerLemmas.{served_is}
use Rattle.step_table.specs.State.{State}
use Rattle.step_table.specs.Steps.{initial}
use Rattle.step_table.proofs.Played.{server, client, config}
use Rattle.theorem_use.specs.Service.{ServesTruly, ComesTo}
use Rattle.theorem_use.specs.Standing.{standing}
use Rattle.theorem_use.specs.Use.{IsOneOf, HasFewSlots, FoundMemory, HasRoom, AsksToLookUp}
use Rattle.theorem_use.specs.Use.{LeadsToEnd, IsKnown, AnswersAtOnce, UsesWhatStands}

-- ---- names below e, and pieces of them

abbrev pub example : List (List ℕ)
example = (101 ∷ []) ∷ []

abbrev pub a : List (List ℕ)
a = (97 ∷ []) ∷ example

abbrev pub b : List (List ℕ)
b = (98 ∷ []) ∷ example

abbrev of : List (List ℕ) → ℕ → List (List ℕ) → ℕ → ℕ → ℕ → Held
of name kind each moment lifetime rank = record {
  piece = record {
    owner = name;
    slot = record { key = name; class = 1; kind = Some kind };
    body = rows each;
    lifetime = lifetime;
    rank = rank;
    route = 0;
  };
  accepted = moment;
}

abbrev pub host : List (List ℕ) → ℕ → ℕ → ℕ → Held
host name moment lifetime rank = of name 1 ((198 ∷ 51 ∷ 100 ∷ 5 ∷ []) ∷ []) moment lifetime rank

-- an alias of a that leads to b
abbrev pub alias : ℕ → ℕ → Held
alias moment lifetime = of a 5 ((1 ∷ 98 ∷ 1 ∷ 101 ∷ 0 ∷ []) ∷ []) moment lifetime 3

abbrev pub name_error : List (List ℕ) → ℕ → ℕ → Held
name_error name moment rank = record {
  piece = record {
    owner = name;
    slot = record { key = name; class = 1; kind = None };
    body = denied None;
    lifetime = 600;
    rank = rank;
    route = 0;
  };
  accepted = moment;
}

-- ---- pieces that stand

-- up to its last millisecond
ages : (standing 300999 (host a 1000 300 3 ∷ []) ≡ host a 1000 300 3 ∷ [])
    × (standing 301000 (host a 1000 300 3 ∷ []) ≡ [])
ages = (refl, refl)

-- a piece that is believed as much takes the place, of whatever lifetime
replaced : (standing 2000 (host a 1500 60 3 ∷ host a 1000 300 3 ∷ []) ≡ host a 1500 60 3 ∷ [])
    × (standing 2000 (host a 1500 0 3 ∷ host a 1000 300 3 ∷ []) ≡ [])
replaced = (refl, refl)

-- a piece that is believed less doesn't stand, unless the one that is believed more had expired
-- when it came
believed_less : (standing 302000 (host a 300999 600 1 ∷ host a 1000 300 3 ∷ []) ≡ [])
    × (standing 302000 (host a 301000 600 1 ∷ host a 1000 300 3 ∷ []) ≡ host a 301000 600 1 ∷ [])
believed_less = (refl, refl)

-- a set below a name error stands, where it came before; where it comes later, the name error does
-- not
errors_above :
    (standing 2000 (name_error example 1500 3 ∷ host a 1000 300 3 ∷ [])
    ≡ name_error example 1500 3 ∷ host a 1000 300 3 ∷ [])
    × (standing 2000 (host a 1500 0 1 ∷ name_error example 1000 3 ∷ []) ≡ [])
errors_above = (refl, refl)

-- a name error is believed next to each other one of its name
errors_again : standing 2000 (name_error a 1500 1 ∷ name_error a 1000 3 ∷ []) ≡ name_error a 1500 1 ∷ []
errors_again = refl

-- ---- room

-- two pieces of one slot take one slot
two_slots : HasFewSlots 2 (host a 1500 60 3 ∷ name_error b 1200 3 ∷ host a 1000 300 3 ∷ [])
two_slots = record {
  slots = (host a 1500 60 3).piece.slot ∷ (name_error b 1200 3).piece.slot ∷ [];
  few = omega arith;
  each = (inl refl, (inr (inl refl), (inl refl, tt)));
}

-- two slots are more than one
too_many_slots : HasFewSlots 1 (host a 1500 60 3 ∷ name_error b 1200 3 ∷ []) → ⊥
too_many_slots h = by h.slots h.few h.each
  where
    only : (s slot : Slot) → IsOneOf slot (s ∷ []) → s ≡ slot
    only s slot (inl is) = is
    only s slot (inr none) = absurd none

    by : (slots : List Slot) → length slots ≤ 1
        → AllByRecursion (λ o. IsOneOf o.piece.slot slots) (host a 1500 60 3 ∷ name_error b 1200 3 ∷ []) → ⊥
    by [] few each = each.0
    by (s ∷ []) few each =
        let one : s ≡ (host a 1500 60 3).piece.slot = only s (host a 1500 60 3).piece.slot each.0 in
        let other : s ≡ (name_error b 1200 3).piece.slot = only s (name_error b 1200 3).piece.slot each.1.0 in
        let kinds : ◌≡◌ {A = Option ℕ} (Some 1) None = ap (λ (slot : Slot). slot.kind) (sym one ∙ other) in
        absurd cc
    by (s ∷ t ∷ slots) few each = omega (arith, few)

-- the claim is about memory in the newest step's era alone
abbrev after : Event → ℕ → Step
after e unkept = record {
  input = record { now = 1000; words = []; event = e };
  outcome = record { actions = []; unkept = unkept; more = false };
}

era_alone : FoundMemory (after tick 0 ∷ after restart 0 ∷ after tick 1 ∷ [])
era_alone = inr (refl, inl refl)

none_found : FoundMemory (after tick 0 ∷ after tick 1 ∷ []) → ⊥
none_found (inl never) = absurd (true≢false (sym never))
none_found (inr (same, inl never)) = absurd (true≢false (sym never))
none_found (inr (same, inr found)) = let one : 1 ≡ 0 = found.0 in omega (arith, one)

-- ---- questions that are known

abbrev pub address : List (List ℕ) → Question
address name = record { name = name; kind = 1; class = 1 }

-- along an alias, while it stands
along : LeadsToEnd [] 61499 (standing 61499 (alias 1500 60 ∷ host b 1000 300 3 ∷ [])) 8 (address a)
unfolding name_of_rdata name_within walk_in name_step route_of
along = tt

lost : LeadsToEnd [] 61500 (standing 61500 (alias 1500 60 ∷ host b 1000 300 3 ∷ [])) 8 (address a) → ⊥
unfolding name_of_rdata name_within walk_in name_step route_of
lost known = known

-- after no more aliases than may be taken
too_far : LeadsToEnd [] 2000 (standing 2000 (alias 1500 60 ∷ host b 1000 300 3 ∷ [])) 0 (address a) → ⊥
unfolding name_of_rdata name_within walk_in name_step route_of
too_far known = known

-- at 2000 time passes, and this is done
abbrev pub doing : List Action → Step
doing actions = record {
  input = record { now = 2000; words = []; event = tick };
  outcome = record { actions = actions; unkept = 0; more = false };
}

abbrev pub passes : Step
passes = doing []

-- a name of one letter, and its alias of the next one
abbrev name_of : ℕ → List (List ℕ)
name_of letter = (letter ∷ []) ∷ []

abbrev link : ℕ → Held
link letter = of (name_of letter) 5 ((1 ∷ (letter + 1) ∷ 0 ∷ []) ∷ []) 1000 300 3

-- m leads by eight aliases to u, of which an address was carried
abbrev eight_links : List Held
eight_links =
    link 109 ∷ link 110 ∷ link 111 ∷ link 112 ∷ link 113 ∷ link 114 ∷ link 115 ∷ link 116
    ∷ host (name_of 117) 1000 300 3 ∷ []

-- a question is known after eight aliases, and not after nine
behind_eight : IsKnown config passes [] eight_links (address (name_of 109))
unfolding name_of_rdata name_within walk_in name_step route_of
behind_eight = tt

behind_nine : IsKnown config passes [] (link 108 ∷ eight_links) (address (name_of 108)) → ⊥
unfolding name_of_rdata name_within walk_in name_step route_of
behind_nine known = known

-- ---- answers at once

-- a message with this identifier that asks for this type of a name of e, spelled with this letter,
-- or of e itself
abbrev pub message : ℕ → List ℕ → ℕ → List ℕ
message id name kind = 0 ∷ id ∷ 1 ∷ 0 ∷ 0 ∷ 1 ∷ 0 ∷ 0 ∷ 0 ∷ 0 ∷ 0 ∷ 0 ∷ name ++ (1 ∷ 101 ∷ 0 ∷ 0 ∷ kind ∷ 0 ∷ 1 ∷ [])

abbrev pub step_at : ℕ → Event → List Action → Step
step_at now e actions = record {
  input = record { now = now; words = []; event = e };
  outcome = record { actions = actions; unkept = 0; more = false };
}

-- a client asks for the servers of e, which is sent on
abbrev asks_for_servers : Step
asks_for_servers = step_at 1000 (from_client client (message 7 [] 2)) (ask_udp 1032 server (message 8 [] 2) ∷ [])

-- a reply to somebody else's question carries them, and the address of a
abbrev reply_comes : Step
reply_comes = step_at 1020 (delivery (Udp 1040) server []) []

abbrev carried : List Held
carried = host a 1020 300 3 ∷ []

-- then the client asks for the address of a, and is sent these octets as an answer
abbrev asks_again : List ℕ → Step
asks_again octets = step_at 2000 (from_client client (message 9 (1 ∷ 97 ∷ []) 1))
    (send_reply client octets Answered ∷ [])

abbrev before : List Step
before = reply_comes ∷ asks_for_servers ∷ []

looks_up : (octets : List ℕ) → AsksToLookUp config (asks_again octets) client (address a)
unfolding first_question question_at octets_end name_within walk_in name_step route_of
looks_up octets = record {
  octets = message 9 (1 ∷ 97 ∷ []) 1;
  sends = refl;
  taken = refl;
  opcode = refl;
  reads = refl;
  served = served_is (address a) refl;
  route = 0;
  on_route = serves_exactly.only config a 0 refl;
}

room : HasRoom config before carried
room = record {
  slots = record { slots = (host a 1020 300 3).piece.slot ∷ []; few = omega arith; each = (inl refl, tt) };
  memory = inr (refl, inr (refl, tt));
}

known : (octets : List ℕ) → IsKnown config (asks_again octets) before carried (address a)
unfolding name_of_rdata name_within walk_in name_step route_of
known octets = tt

-- where the reply is right for the step's own question, which owns it, what stands was used
own_question : (octets : List ℕ)
    → RightReply (record {
      config = config;
      asked = asks_again octets;
      before = before;
      now =
          asks_again octets ∷ before;
    }) client
    (message 9 (1 ∷ 97 ∷ []) 1) 1 Answered octets
    → UsesWhatStands config (asks_again octets ∷ before) ((2 ∷ []) ∷ [] ∷ [] ∷ [])
unfolding first_question question_at octets_end name_within walk_in name_step
own_question octets right = (
  (
    (
      tt,
      λ asker q nothing asks is room known. absurd
          (none_known q nothing (servers_are asker q asks.octets asks.sends asks.reads) is known),
    ),
    λ asker q nothing asks is room known. absurd (nobody_asked _ asks.sends),
  ),
  λ asker q some asks is room known.
      let sent : Request = record { client = client; octets = message 9 (1 ∷ 97 ∷ []) 1 } in
      subst (λ (r : Request). AnswersAtOnce config (asks_again octets) before [] (2 ∷ []) r.client r.octets)
      (sent_is sent _ asks.sends)
      (record { octets = octets; why = Answered; actions = refl; reason = inl refl; owner = refl; right = right }),
)
  where
    sent_is : (r s : Request) → Some r ≡ Some s → r ≡ s
    sent_is r s is = cc

    nobody_asked : (r : Request) → ◌≡◌ {A = Option Request} None (Some r) → ⊥
    nobody_asked r is = absurd cc

    servers : Question
    servers = record { name = example; kind = 2; class = 1 }

    servers_are : (asker : Client) (q : Question) (octets : List ℕ) → Sends asks_for_servers.input.event asker octets
        → one_question octets ≡ Some q → servers ≡ q
    servers_are asker q octets sent reads =
        let first : Request = record { client = client; octets = message 7 [] 2 } in
        let same : message 7 [] 2 ≡ octets = ap (λ (r : Request). r.octets)
        (sent_is first (record { client = asker; octets = octets }) sent) in
        let read : Some servers ≡ Some q = ap one_question same ∙ reads in
        cc

    none_known : (q : Question) (nothing : List Held) → servers ≡ q → nothing ≡ []
        → IsKnown config asks_for_servers [] nothing q → ⊥
    none_known q nothing q_is none is_known =
        subst (λ (z : Question × List Held). IsKnown config asks_for_servers [] z.1 z.0)
        (λ i. (sym q_is i, none i)) is_known

-- The client's older question, which still waits, may not own it: then the newest one, for which
-- enough stands, would wait.
older_question : (octets : List ℕ) → CarriedInEra config before carried
    → UsesWhatStands config (asks_again octets ∷ before) ((0 ∷ []) ∷ [] ∷ [] ∷ []) → ⊥
older_question octets is uses =
    let once = uses.1 client (address a) carried (looks_up octets) is room (known octets) in
    let owner : ◌≡◌ {A = List ℕ} (0 ∷ []) (2 ∷ []) = once.owner in
    let same : ◌≡◌ {A = ℕ} 0 2 = cc in
    omega (arith, same)

-- nor is nobody
no_owner : (octets : List ℕ) → CarriedInEra config before carried
    → UsesWhatStands config (asks_again octets ∷ before) ([] ∷ [] ∷ [] ∷ []) → ⊥
no_owner octets is uses =
    let once = uses.1 client (address a) carried (looks_up octets) is room (known octets) in
    let one : 0 ≡ 1 = ap length once.owner in
    omega (arith, one)

-- not nothing, nor a reply and more
nothing_done : AnswersAtOnce config (doing []) [] [] (0 ∷ []) client [] → ⊥
nothing_done h = let one : 0 ≡ 1 = ap length h.actions in omega (arith, one)

answered_twice : AnswersAtOnce config (doing (send_reply client [] Answered ∷ send_reply client [] Answered ∷ [])) [] []
    (0 ∷ []) client [] → ⊥
answered_twice h = let one : 2 ≡ 1 = ap length h.actions in omega (arith, one)

-- nor another failure
overdue : AnswersAtOnce config (doing (send_reply client [] Deadline ∷ [])) [] [] (0 ∷ []) client [] → ⊥
overdue h = by h.reason
  where
    why_is : Deadline ≡ h.why
    why_is = let same : send_reply client [] Deadline ∷ [] ≡ send_reply client h.octets h.why ∷ [] = h.actions in cc

    by : (h.why ≡ Answered) ⊎ (h.why ≡ TooLarge) → ⊥
    by (inl answers) = let is : Deadline ≡ Answered = why_is ∙ answers in absurd cc
    by (inr large) = let is : Deadline ≡ TooLarge = why_is ∙ large in absurd cc

-- ---- the headline

-- a run that did nothing
nothing_ran : ServesTruly config []
nothing_ran = record {
  sound = record { owners = []; sound = tt; tells = tt; few = omega arith };
  asks = tt;
  given = tt;
  tries = tt;
  places = [];
  turns = tt;
  waiting = tt;
  uses = tt;
  used = [];
  recent = tt;
}

-- the owners that make a run sound are those of its use: not the client's older question
one_list : (octets : List ℕ) → CarriedInEra config before carried
    → (h : ServesTruly config (asks_for_servers ∷ reply_comes ∷ asks_again octets ∷ []))
    → h.sound.owners ≡ (0 ∷ []) ∷ [] ∷ [] ∷ [] → ⊥
one_list octets is h older =
    older_question octets is (subst (UsesWhatStands config (asks_again octets ∷ before)) older h.uses)

-- without steps a new forwarder is where it began, and nowhere else
where_it_began : IsConfig config → ComesTo config [] (initial config)
where_it_began accepted = record { config = accepted; run = refl }

elsewhere : ComesTo config [] (record (initial config) { moment = 1 }) → ⊥
elsewhere came = let moments : 1 ≡ 0 = ap (λ (s : State). s.moment) came.run in omega (arith, moments)
