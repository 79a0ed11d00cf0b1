-- A row keeps `Mirrors`, and uses the standing pieces.
use Rattle.std.proofs.Common.{◌≡◌, ◌∙◌, ℕ, ◌^◌, ◌≤◌, List, [], ◌∷◌, ◌++◌, length, Bool, true, false, refl, sym, ap, subst, inl, inr, arith, Option, Some, None, append_assoc}
use Rattle.std.specs.Prelude.{min, max, reverse}
use Rattle.std.specs.List.{concat, AllByRecursion}
use Rattle.std.proofs.lemmas.Bool.{true≢false}
use Rattle.std.proofs.lemmas.List.{reverse-append, length-map, append-nil}
use Rattle.dns_message.specs.Header.{header_in}
use Rattle.dns_message.specs.Values.{Question}
use Rattle.dns_message.specs.Questions.{one_question}
use Rattle.plain_values.specs.Octets.{AreOctets}
use Rattle.suffix_routes.specs.declared.peer.Peer.{Peer}
use Rattle.suffix_routes.specs.Values.{Config, IsConfig}
use Rattle.outstanding.specs.declared.ask.Path.{Path}
use Rattle.outstanding.specs.Lists.{on_path as ask_on}
use Rattle.trust_rank.specs.declared.slot.Slot.{Slot}
use Rattle.trust_rank.specs.Values.{Piece, Walk}
use Rattle.trust_rank.specs.Formed.{IsPiece}
use Rattle.trust_rank.specs.Walks.{most_aliases, walk_of}
use Rattle.record_cache.specs.Values.{Held, Cache}
use Rattle.record_cache.specs.Entries.{AreHeld}
use Rattle.step_values.specs.declared.event.Client.{Client}
use Rattle.step_values.specs.Values.{Event, from_client, delivery, path_failed, tick, restart, request_in, Request, Delivered, StepInput, Outcome, Step}
use Rattle.step_history.specs.History.{is_restart, moment_at, Sends, Carries, NothingAccepted}
use Rattle.step_values.specs.Requests.{is_taken}
use Rattle.step_history.specs.Carried.{CarriedInEra, then_carried}
use Rattle.step_history.specs.Sound.{unanswered, AsksIn}
use Rattle.step_table.specs.State.{State, start}
use Rattle.step_table.specs.WaitingQuestions.Values.{Waiting}
use Rattle.alias_chains.specs.LookingUp.{LookUp, look_up, promoted_all}
use Rattle.alias_chains.specs.Offering.{put_all, unkept_of}
use Rattle.step_table.specs.Steps.{Done, initial}
use Rattle.step_table.specs.Row.{is_due_at, Happens, HandsOctets, effective, Row}
use Rattle.step_table.specs.Replies.{fate_by, row_of_end, row_of_acceptance, row_of_delivery}
use Rattle.step_table.specs.Clients.{row_of_request}
use Rattle.theorem_sound.specs.TheoremCache.Kept.{CanBeKept}
use Rattle.theorem_sound.proofs.TheoremCache.CallerLemmas.{promotions_keep_cached, same_look_ups}
use Rattle.step_table.proofs.CallerLemmas.{All-weaker}
use Rattle.theorem_sound.specs.Explains.{Explains}
use Rattle.theorem_sound.specs.Runs.{Run}
use Rattle.step_history.proofs.CacheLaws.CallerLemmas.{serves_exactly}
use Rattle.theorem_sound.proofs.CallerLemmas.{served_so, row_explained, start_explained, IsHeard, heard, heard_carried, carries, offered}
use Rattle.theorem_use.specs.Standing.{standing}
use Rattle.theorem_use.specs.Use.{IsOneOf, HasFewSlots, FoundMemory, HasRoom, AsksToLookUp, LeadsToEnd, IsKnown, AnswersAtOnce}
use Rattle.theorem_use.specs.Touched.{Touched, TouchedInEra}
use Rattle.theorem_use.specs.Recent.{IsAnsweredByRecent}
use Rattle.theorem_use.specs.Mirrors.{Mirrors, IsMirrored, KeepsRecent, HasRecent, FullyExplains, StaysFullyExplained}
use Rattle.theorem_use.specs.Service.{ServesTruly, ComesTo, ServesOnTruly}
use Rattle.theorem_use.proofs.Asked.{AreServedOn}
use Rattle.theorem_use.proofs.Recent.{KeepsAfter, UsesThese, delivered, quiet_after as recent_quiet}
use Rattle.theorem_use.proofs.Messages.{message_is, recent_is_hit}
use Rattle.theorem_use.proofs.AskRows.{GivesIfHeard, event_row}
use Rattle.theorem_use.proofs.AskHistory.{asks_for_waiting}
use Rattle.theorem_use.proofs.Given.{ends_asking, all_are_tries}
use Rattle.theorem_use.proofs.Turns.{turns_after, first_turns}
use Rattle.theorem_use.proofs.AtOnce.{IsHit, is_hit, hit_is, is_hit_so, IsOwnAnswer, hit_is_owned}
use Rattle.theorem_use.proofs.Ending.{Ends, look_up_ends}
use Rattle.theorem_use.proofs.Finding.{finds_the_same}
use Rattle.theorem_use.proofs.Offers.{offers_mirror, promotions_mirror, mirrors_later}
use Rattle.theorem_use.proofs.Rows.{promoted_cache, IsQuiet, UsesNone, UsesFor, UsesAtEnd, request_is, path_is, tick_is, unheard_is, heard_is, end_is}

-- ---- pieces carried before a reply

-- a property of all carried pieces is a property of the pieces carried before
all_before : (P : Held → Type 0) (n : ℕ) (ps : List Piece) (os : List Held) → AllByRecursion P (then_carried n ps os) → AllByRecursion P os
all_before P n [] os all = all
all_before P n (p ∷ ps) os all = (all_before P n ps (record { piece = p; accepted = n } ∷ os) all).1

few_before : (most n : ℕ) (ps : List Piece) (os : List Held) → HasFewSlots most (then_carried n ps os) → HasFewSlots most os
few_before most n ps os few = record { slots = few.slots; few = few.few; each = all_before (λ o. IsOneOf o.piece.slot few.slots) n ps os few.each }

-- a step of the era found memory, and so did the era's steps before
memory_parts : (t : Step) (past : List Step) → is_restart t ≡ false → FoundMemory (t ∷ past) → (t.outcome.unkept ≡ 0) × FoundMemory past
memory_parts t past runs (inl restarts) = absurd (true≢false (sym restarts ∙ runs))
memory_parts t past runs (inr found) = found

-- without a step nothing is recent
nothing_recent : {c : Config} → KeepsRecent c 0 [] []
nothing_recent = record { kept = tt; order = λ o slots never alive. absurd never }

-- ---- the message or the delivery of an event

sent_is : (a b : Request) → Some a ≡ Some b → a ≡ b
sent_is a b e = cc

none_sent : (r : Request) → None ≡ Some r → ⊥
none_sent r e = absurd (cc)

none_came : (d : Delivered) → None ≡ Some d → ⊥
none_came d e = absurd (cc)

module _ (c : Config) (past : List Step) (w : List (List ℕ)) (s : State) (x : Explains c past w s)
    (was : IsMirrored c past w s) (has : HasRecent c past w s) (now : ℕ) (words : List ℕ) (unkept : ℕ) (more : Bool) where
  abbrev n : ℕ
  n = effective now s

  abbrev told : Event → Done → Step
  told e d = record { input = record { now = now; words = words; event = e }; outcome = record { actions = d.actions; unkept = unkept; more = more } }

  later : s.moment ≤ n
  later = omega arith

  -- the entries before the step mirror the standing pieces
  before : (carried : List Held) → CarriedInEra c past carried → HasRoom c past carried → Mirrors n carried s.cache.entries
  before carried is room = mirrors_later s.moment n carried s.cache.entries later (was.mirrors carried is room)

  promoted_held : (used : List Slot) → AreHeld (promoted_cache used s.cache)
  promoted_held used = (promotions_keep_cached c past s.moment s.cache used x.cache).held

  abbrev MirrorsAfter : Event → Done → Type 0
  MirrorsAfter e d = (carried : List Held) → CarriedInEra c (told e d ∷ past) carried → HasRoom c (told e d ∷ past) carried → Mirrors d.state.moment carried d.state.cache.entries

  -- ---- a step accepting nothing

  quiet_after : (Fits : List Slot → Type 0) (e : Event) (d : Done) → is_restart (told e d) ≡ false → IsQuiet Fits n s.cache d → ((ps : List Piece) → Carries c (told e d) past ps → ⊥) → MirrorsAfter e d
  quiet_after Fits e d runs quiet none carried (inl (restarts, is)) room = absurd (true≢false (sym restarts ∙ runs))
  quiet_after Fits e d runs quiet none carried (inr (inl (goes, silent, is))) room =
      let memory = memory_parts (told e d) past runs room.memory in
      let old = before carried is (record { slots = room.slots; memory = memory.1 }) in
      subst (λ (y : Cache × ℕ). Mirrors y.1 carried y.0.entries) (λ i. (sym quiet.cache_is i, sym quiet.moment_is i)) (promotions_mirror n quiet.used carried s.cache.entries old)
  quiet_after Fits e d runs quiet none carried (inr (inr (goes, ps, os, carries_it, is, all))) room = absurd (none ps carries_it)

  -- ---- a delivery

  module _ (path : Path) (from : Peer) (octets : List ℕ) (rooms : List Bool) (are : AreOctets octets) where
    abbrev event : Event
    event = delivery path from octets

    abbrev row : Done
    row = row_of_delivery (start c n words s) rooms from octets (ask_on path s.asks)

    module _ (d : Done) (is_row : d ≡ row) where
      -- an accepted reply is offered
      module _ (ps : List Piece) (os : List Held) (carried_now : Carries c (told event d) past ps) (is : CarriedInEra c past os) (none_unkept : d.unkept ≡ 0) (most : HasFewSlots c.limits.cache (then_carried n ps os)) (found : FoundMemory past) where
        abbrev h : IsHeard c past w s x now words unkept more path from octets rooms are
        h = heard c past w s x now words unkept more path from octets rooms are d.actions ps carried_now

        abbrev walk : Walk
        walk = walk_of c h.message h.ask.question h.ask.route

        abbrev pieces : List Piece
        pieces = walk.pieces ++ walk.authority

        accepted : d ≡ row_of_acceptance (start c n words s) rooms h.ask walk
        accepted = is_row ∙ heard_is c n words s rooms path from octets h.ask h.message h.on h.live h.whole h.read h.fine

        ended : IsQuiet (UsesAtEnd c n words s h.ask walk walk.end) n s.cache (row_of_end (start c n words (Rattle.step_table.specs.Steps.with_preferred_server h.ask s)) h.ask walk (fate_by c n s.cache.entries h.ask walk) walk.end)
        ended = end_is c n words s h.ask walk (fate_by c n s.cache.entries h.ask walk) walk.end

        abbrev entries : List Held
        entries = promoted_all ended.used s.cache.entries

        pieces_are : ps ≡ pieces
        pieces_are = sym (heard_carried c past w s x now words unkept more path from octets rooms are d.actions ps carried_now) ∙ h.carried_are

        nothing_unkept : unkept_of s.cache.capacity n rooms ps entries ≡ 0
        nothing_unkept =
            ap (λ (qs : List Piece). unkept_of s.cache.capacity n rooms qs entries) pieces_are
            ∙ ap (λ (y : Cache). unkept_of y.capacity n rooms pieces y.entries) (sym ended.cache_is)
            ∙ ap (λ (y : Done). y.unkept) (sym accepted) ∙ none_unkept

        formed : AllByRecursion IsPiece ps
        formed = subst (AllByRecursion IsPiece) (sym pieces_are)
            (All-weaker (CanBeKept c) IsPiece (λ p k. k.formed) pieces (offered c past w s x now words unkept more path from octets rooms are h.ask h.on h.message h.live h.whole h.read h.fine))

        few : Rattle.std.specs.Prelude.length most.slots ≤ s.cache.capacity
        few = let le = most.few in let same = x.cache.capacity in omega (arith, le, same)

        after : Mirrors n (then_carried n ps os) (put_all s.cache.capacity n rooms ps entries)
        after = offers_mirror s.cache.capacity n most.slots rooms ps os entries few most.each formed (promoted_held ended.used)
            (promotions_mirror n ended.used os s.cache.entries (before os is (record { slots = few_before c.limits.cache n ps os most; memory = found }))) nothing_unkept

        entries_are : d.state.cache.entries ≡ put_all s.cache.capacity n rooms ps entries
        entries_are =
            ap (λ (y : Done). y.state.cache.entries) accepted
            ∙ ap (λ (y : Cache). put_all y.capacity n rooms pieces y.entries) ended.cache_is
            ∙ ap (λ (qs : List Piece). put_all s.cache.capacity n rooms qs entries) (sym pieces_are)

        moment_is : d.state.moment ≡ n
        moment_is = ap (λ (y : Done). y.state.moment) accepted ∙ ended.moment_is

        pub offered_after : Mirrors d.state.moment (then_carried n ps os) d.state.cache.entries
        offered_after = subst (λ (y : ℕ × List Held). Mirrors y.0 (then_carried n ps os) y.1) (λ i. (sym moment_is i, sym entries_are i)) after

      moment_now : n ≡ moment_at (told event d ∷ past)
      moment_now = ap (max (min now (2 ^ 62))) x.moment

      delivered_after : d.unkept ≡ unkept → MirrorsAfter event d
      delivered_after same carried (inl (restarts, is)) room = absurd (true≢false (sym restarts))
      delivered_after same carried (inr (inl (goes, silent, is))) room =
          quiet_after UsesNone event d refl quiet silent carried (inr (inl (goes, silent, is))) room
        where
          quiet : IsQuiet UsesNone n s.cache d
          quiet = subst (IsQuiet UsesNone n s.cache) (sym is_row) (unheard_is c n words s rooms path from octets
              (λ a on m live whole read fine. silent ((walk_of c m a.question a.route).pieces ++ (walk_of c m a.question a.route).authority)
              (carries c past w s x now words unkept more path from octets rooms are a on m live whole read fine d.actions)))
      delivered_after same carried (inr (inr (goes, ps, os, carries_it, is, all))) room =
          let memory = memory_parts (told event d) past refl room.memory in
          let here : carried ≡ then_carried n ps os = all ∙ ap (λ (t : ℕ). then_carried t ps os) (sym moment_now) in
          subst (λ (y : List Held). Mirrors d.state.moment y d.state.cache.entries) (sym here)
          (offered_after ps os carries_it is (same ∙ memory.0) (subst (HasFewSlots c.limits.cache) here room.slots) memory.1)

  -- ---- a known question

  module _ (client : Client) (octets : List ℕ) (are : AreOctets octets) (d : Done)
      (is_row : d ≡ row_of_request (start c n words s) client octets) where
    abbrev step : Step
    step = told (from_client client octets) d

    moment_so : n ≡ moment_at (step ∷ past)
    moment_so = ap (max (min now (2 ^ 62))) x.moment

    abbrev Hit : Type 0
    Hit = IsHit c past w s x now words unkept more client octets are

    -- the cache answers the question
    known_is_hit : (q : Question) (carried : List Held) → AsksToLookUp c step client q → CarriedInEra c past carried
        → HasRoom c past carried → IsKnown c step past carried q → Hit
    known_is_hit q carried asks is room known = record {
      takes = subst (λ (o : List ℕ). is_taken o ≡ true) octets_are asks.taken;
      opcode = subst (λ (o : List ℕ). (header_in o).opcode ≡ 0) octets_are asks.opcode;
      question = q;
      reads = subst (λ (o : List ℕ). one_question o ≡ Some q) octets_are asks.reads;
      served = served_so q asks.served;
      route = asks.route;
      on_route = serves_exactly.each c q.name asks.route x.config.differ asks.on_route;
      end = leads.0;
      ends_so = ap (λ (v : LookUp). v.met) same ∙ leads.1;
    }
      where
        octets_are : asks.octets ≡ octets
        octets_are = ap (λ (r : Request). r.octets) (sym (sent_is _ _ asks.sends))

        mirrored : Mirrors n carried s.cache.entries
        mirrored = before carried is room

        -- its look-ups among the entries and among the standing pieces are equal
        same : look_up c.routes n s.cache.entries most_aliases [] q ≡ look_up c.routes n
            (standing n carried) most_aliases [] q
        same = same_look_ups c.routes n s.cache.entries (standing n carried)
            (finds_the_same c.routes n s.cache.capacity s.cache.entries (standing n carried) x.cache.held
            (mirrored.stands n (omega arith)) (mirrored.held n (omega arith)))
            most_aliases [] q

        leads : Ends (look_up c.routes n (standing n carried) most_aliases [] q)
        leads = look_up_ends c.routes n (standing n carried) most_aliases [] q
            (subst (λ (t : ℕ). LeadsToEnd c.routes t (standing t carried) most_aliases q) (sym moment_so) known)

  -- ---- each event

  abbrev UsesNow : Event → Done → List ℕ → Type 0
  UsesNow e d os = (client : Client) (q : Question) (carried : List Held) → (asks : AsksToLookUp c (told e d) client q)
      → CarriedInEra c past carried
      → HasRoom c past carried → IsKnown c (told e d) past carried q
      → AnswersAtOnce c (told e d) past (concat w) os client asks.octets

  -- the state after the step is explained, for some owners of its replies
  abbrev IsExplainedAfter : Event → Done → Type 0
  IsExplainedAfter e d = (os : List ℕ) × Explains c (told e d ∷ past) (os ∷ w) d.state

  -- a question answered by recent pieces is answered
  abbrev UsesRecentNow : Event → Done → List ℕ → Type 0
  UsesRecentNow e d os = (ts : List Touched) → TouchedInEra c past has.used ts → (client : Client) (q : Question)
      → (asks : AsksToLookUp c (told e d) client q)
      → IsAnsweredByRecent c (moment_at (told e d ∷ past)) ts 8 q
      → AnswersAtOnce c (told e d) past (concat w) os client asks.octets

  abbrev IsUsedAfter : Event → Done → Type 0
  IsUsedAfter e d = (os : List ℕ) × Explains c (told e d ∷ past) (os ∷ w) d.state × UsesNow e d os × UsesRecentNow e d os

  -- a message answered by the cache owns its answer; for any other message nothing is claimed
  message_after : (client : Client) (octets : List ℕ) (are : AreOctets octets) (d : Done)
      → d ≡ row_of_request (start c n words s) client octets → more ≡ is_due_at c d.state.moment d.state
      → IsExplainedAfter (from_client client octets) d → (b : Bool)
      → is_hit c past w s x now words unkept more client octets are ≡ b → IsUsedAfter (from_client client octets) d
  message_after client octets are d h more_is other true hit = (
    length past ∷ [],
    own.explained,
    λ asker q carried asks is room known. once asker asks.octets asks.sends,
    λ ts era asker q asks known. once asker asks.octets asks.sends,
  )
    where
      own : IsOwnAnswer c past w s x now words unkept more client octets are d
      own = hit_is_owned c past w s x now words unkept more client octets are
          (is_hit_so c past w s x now words unkept more client octets are hit) d h more_is

      once : (asker : Client) (request : List ℕ) → Sends (from_client client octets) asker request
          → AnswersAtOnce c (told (from_client client octets) d) past (concat w) (length past ∷ []) asker request
      once asker request sends =
          let one : Request = record { client = client; octets = octets } in
          let other : Request = record { client = asker; octets = request } in
          subst (λ (r : Request). AnswersAtOnce c (told (from_client client octets) d) past (concat w)
          (length past ∷ []) r.client r.octets) (sent_is one other sends)
          (record {
            octets = own.octets;
            why = own.why;
            actions = own.actions;
            reason = own.reason;
            owner = refl;
            right = own.right;
          })
  message_after client octets are d h more_is other false not_hit = (
    other.0,
    other.1,
    λ asker q carried asks is room known. no_hit (known_is_hit client octets are d h q carried (own asker q asks) is room known),
    λ ts era asker q asks known. no_hit (recent_is_hit c past w s x has now words unkept more client octets are d h ts era q (own asker q asks) known),
  )
    where
      no_hit : {X : Type 0} → IsHit c past w s x now words unkept more client octets are → X
      no_hit hit = absurd (true≢false (sym (hit_is c past w s x now words unkept more client octets are hit) ∙ not_hit))

      -- the message is the client's
      own : (asker : Client) (q : Question) → AsksToLookUp c (told (from_client client octets) d) asker q
          → AsksToLookUp c (told (from_client client octets) d) client q
      own asker q asks = subst (λ (z : Client). AsksToLookUp c (told (from_client client octets) d) z q)
          (ap (λ (r : Request). r.client) (sym (sent_is _ _ asks.sends))) asks

  -- nothing is claimed of an event without a question
  no_question : (e : Event) (d : Done) → IsExplainedAfter e d → ((r : Request) → request_in e ≡ Some r → ⊥) → IsUsedAfter e d
  no_question e d other none = (
    other.0,
    other.1,
    λ client q carried asks is room known. absurd (none _ asks.sends),
    λ ts era client q asks known. absurd (none _ asks.sends),
  )

  used_after : (e : Event) → HandsOctets e → (d : Done) → Happens (start c n words s) e d
      → more ≡ is_due_at c d.state.moment d.state → IsExplainedAfter e d → IsUsedAfter e d
  used_after (from_client client octets) are d h more_is other =
      message_after client octets are d h more_is other
      (is_hit c past w s x now words unkept more client octets are) refl
  used_after (delivery path from octets) are d h more_is other = no_question (delivery path from octets) d other none_sent
  used_after (path_failed path) are d h more_is other = no_question (path_failed path) d other none_sent
  used_after tick are d h more_is other = no_question tick d other none_sent
  used_after restart are d h more_is other = no_question restart d other none_sent

  mirrored_after : (e : Event) → HandsOctets e → (d : Done) → Happens (start c n words s) e d → d.unkept ≡ unkept
      → MirrorsAfter e d
  mirrored_after (from_client client octets) are d h same =
      quiet_after (UsesFor c n words s octets) (from_client client octets) d refl
      (subst (IsQuiet (UsesFor c n words s octets) n s.cache) (sym h) (request_is c n words s client octets))
      (λ ps k. none_came _ k.accepts.matches.delivered)
  mirrored_after (delivery path from octets) are d h same = delivered_after path from octets h.0 are d h.1 same
  mirrored_after (path_failed path) are d h same =
      quiet_after UsesNone (path_failed path) d refl (subst (IsQuiet UsesNone n s.cache) (sym h)
      (path_is c n words s (ask_on path s.asks))) (λ ps k. none_came _ k.accepts.matches.delivered)
  mirrored_after tick are d h same =
      quiet_after UsesNone tick d refl (subst (IsQuiet UsesNone n s.cache) (sym h) (tick_is c n words s))
      (λ ps k. none_came _ k.accepts.matches.delivered)
  mirrored_after restart are d h same = restarted d h
    where
      nothing_there : (t : ℕ) → Mirrors t [] []
      nothing_there t = record { was_carried = λ y among. among; stands = λ m le y among alive. among; held = λ m le y among. among }

      restarted : (d : Done) → d ≡ record { actions = []; unkept = 0; state = initial c } → MirrorsAfter restart d
      restarted d h carried (inl (restarts, is)) room = subst (λ (z : Done × List Held). Mirrors z.0.state.moment z.1 z.0.state.cache.entries) (λ i. (sym h i, sym is i)) (nothing_there 0)
      restarted d h carried (inr (inl (goes, silent, is))) room = absurd (true≢false goes)
      restarted d h carried (inr (inr (goes, ps, os, carries_it, is, all))) room = absurd (true≢false goes)

  -- ---- recent pieces after each event

  -- the used slots of the step, and the recent pieces kept
  record IsKeptAfter (e : Event) (d : Done) : Type 0 where
    pub slots : List Slot
    pub uses : UsesThese c past w s x has now words unkept more (told e d) slots
    pub keeps : KeepsAfter c past w s x has now words unkept more (told e d) d slots

  -- an event with neither a question nor a reply
  kept_quietly : (e : Event) (d : Done) → is_restart (told e d) ≡ false → IsQuiet UsesNone n s.cache d → ((r : Request) → request_in e ≡ Some r → ⊥)
      → ((ps : List Piece) → Carries c (told e d) past ps → ⊥) → IsKeptAfter e d
  kept_quietly e d runs quiet unasked none = record {
    slots = quiet.used;
    uses = λ ts era. inr (inr (record { none = quiet.fits; silent = λ q text from. nobody_asks (request_in e) unasked q from.0 }));
    keeps = recent_quiet c past w s x has now words unkept more UsesNone e d runs quiet none;
  }
    where
      nobody_asks : (r : Option Request) → ((z : Request) → r ≡ Some z → ⊥) → (q : Question) → AsksIn r q → ⊥
      nobody_asks None unasked' q asks = asks
      nobody_asks (Some z) unasked' q asks = unasked' z refl

  kept_after : (e : Event) → HandsOctets e → (d : Done) → Happens (start c n words s) e d → d.unkept ≡ unkept → IsKeptAfter e d
  kept_after (from_client client octets) are d h same =
      let message = message_is c past w s x has now words unkept more client octets are d h in
      record { slots = message.slots; uses = message.uses; keeps = message.keeps }
  kept_after (delivery path from octets) are d h same =
      let came = delivered c past w s x has now words unkept more path from octets h.0 are d h.1 same in
      record { slots = came.slots; uses = came.uses; keeps = came.keeps }
  kept_after (path_failed path) are d h same =
      kept_quietly (path_failed path) d refl (subst (IsQuiet UsesNone n s.cache) (sym h) (path_is c n words s (ask_on path s.asks)))
      none_sent (λ ps k. none_came _ k.accepts.matches.delivered)
  kept_after tick are d h same =
      kept_quietly tick d refl (subst (IsQuiet UsesNone n s.cache) (sym h) (tick_is c n words s))
      none_sent (λ ps k. none_came _ k.accepts.matches.delivered)
  kept_after restart are d h same = record {
    slots = [];
    uses = λ ts era. inr (inr (record { none = refl; silent = λ q text from. absurd from.0 }));
    keeps = restarted d h;
  }
    where
      restarted : (d : Done) → d ≡ record { actions = []; unkept = 0; state = initial c } → KeepsAfter c past w s x has now words unkept more (told restart d) d []
      restarted d h ts (inl (restarts, is)) = subst (λ (z : Done × List Touched). KeepsRecent c z.0.state.moment z.1 z.0.state.cache.entries) (λ i. (sym h i, sym is i)) nothing_recent
      restarted d h ts (inr (goes, carried, before, carries, era, is)) = absurd (true≢false goes)

-- ---- rows, and runs

pub row_fully_explained : (c : Config) (past : List Step) (w : List (List ℕ)) (s : State) (h : StepInput) (o : Outcome)
    (s' : State) → FullyExplains c past w s → Row c s h o s'
    → (os : List ℕ) × FullyExplains c (record { input = h; outcome = o } ∷ past) (os ∷ w) s'
row_fully_explained c past w s h o s' both r = (
  used.0,
  record {
    explained = used.1;
    mirrored = record { mirrors = mirrors; uses = (both.mirrored.uses, used.2) };
    recent = record {
      used = kept.slots ∷ both.recent.used;
      keeps = kept.keeps;
      uses = (both.recent.uses, λ ts era. (kept.uses ts era, used.3 ts era));
    };
    served = on.served;
    asked = (both.asked, asks_for_waiting c past w s both.explained t (used.0 ∷ w) s' used.1 on);
    given = (
      both.given,
      ends_asking c past w s both.explained h.now h.words o.unkept o.more h.event r.octets d r.happens
          (used.0 ∷ w) used.1,
    );
    tries = (both.tries, all_are_tries c (t ∷ past) (used.0 ∷ w) s' used.1);
    turns = turns_after c past w s both.explained h.now h.words o.unkept o.more both.turns h.event r.octets d r.happens
        (used.0 ∷ w) used.1;
  },
)
  where
    t : Step
    t = record { input = h; outcome = o }

    d : Done
    d = record { actions = o.actions; unkept = o.unkept; state = s' }

    mirrors : (carried : List Held) → CarriedInEra c (t ∷ past) carried → HasRoom c (t ∷ past) carried
        → Mirrors s'.moment carried s'.cache.entries
    mirrors = mirrored_after c past w s both.explained both.mirrored both.recent h.now h.words o.unkept o.more h.event r.octets d
        r.happens refl

    kept : IsKeptAfter c past w s both.explained both.mirrored both.recent h.now h.words o.unkept o.more h.event d
    kept = kept_after c past w s both.explained both.mirrored both.recent h.now h.words o.unkept o.more h.event r.octets d
        r.happens refl

    used : IsUsedAfter c past w s both.explained both.mirrored both.recent h.now h.words o.unkept o.more h.event d
    used = used_after c past w s both.explained both.mirrored both.recent h.now h.words o.unkept o.more h.event r.octets d r.happens
        r.more (row_explained c past w s h o s' both.explained r)

    -- an accepted delivery carries pieces
    gives : (e : Event) → HandsOctets e
        → GivesIfHeard c (effective h.now s) s (NothingAccepted c (record { input = record h { event = e }; outcome = o })
        past → ⊥) e
    gives (from_client client octets) are = tt
    gives (delivery path from octets) are = λ a there m live whole read fine quiet. quiet
        ((walk_of c m a.question a.route).pieces ++ (walk_of c m a.question a.route).authority)
        (carries c past w s both.explained h.now h.words o.unkept o.more path from octets [] are a there m live whole read
        fine o.actions)
    gives (path_failed path) are = tt
    gives tick are = tt
    gives restart are = tt

    on : AreServedOn (NothingAccepted c t past → ⊥) o.actions s.asks s'.asks s'.waiting
    on = event_row c (effective h.now s) h.words s both.served both.explained.asks_are.by_arrival
        (NothingAccepted c t past → ⊥) past both.explained.tried h.event d (gives h.event r.octets) r.happens

pub row_stays_fully_explained : (c : Config) (s : State) (h : StepInput) (o : Outcome) (s' : State) → Row c s h o s'
    → StaysFullyExplained c s h o s'
row_stays_fully_explained c s h o s' r = λ past w both. row_fully_explained c past w s h o s' both r

pub start_fully_explained : (c : Config) → IsConfig c → FullyExplains c [] [] (initial c)
start_fully_explained c config = record {
  explained = start_explained c config;
  mirrored = record {
    mirrors = λ carried is room. subst (λ (z : List Held). Mirrors 0 z []) (sym is)
        (record { was_carried = λ y among. among; stands = λ m le y among alive. among; held = λ m le y among. among });
    uses = tt;
  };
  recent = record {
    used = [];
    keeps = λ ts is. subst (λ (z : List Touched). KeepsRecent c 0 z []) (sym is) nothing_recent;
    uses = tt;
  };
  served = record { asked = tt; wanting = tt };
  asked = tt;
  given = tt;
  tries = tt;
  turns = first_turns c;
}

run_fully_explained : (c : Config) (s s' : State) (steps : List Step) (past : List Step) (w : List (List ℕ))
    → FullyExplains c past w s → Run c s steps s'
    → (w' : List (List ℕ)) × FullyExplains c (reverse steps ++ past) w' s'
run_fully_explained c s s' [] past w both run = (w, subst (FullyExplains c past w) (sym run) both)
run_fully_explained c s s' (t ∷ steps) past w both run =
    let more = row_fully_explained c past w s t.input t.outcome run.0 both run.1 in
    let rest = run_fully_explained c run.0 s' steps (t ∷ past) (more.0 ∷ w) more.1 run.2 in (
      rest.0,
      subst (λ (all : List Step). FullyExplains c all rest.0 s')
          (sym (ap (λ (xs : List Step). xs ++ past) (reverse-append (t ∷ []) steps)
          ∙ append_assoc (reverse steps) (t ∷ []) past)) rest.1,
    )

-- the questions owning no reply are the waiting questions
few_wait : (c : Config) (past : List Step) (w : List (List ℕ)) (s : State) → Explains c past w s
    → length (unanswered past (concat w)) ≤ c.limits.questions
few_wait c past w s x =
    let one = length-map x.numbers_of (λ (z : Waiting × ℕ). z.0) in
    let two = length-map x.numbers_of (λ (z : Waiting × ℕ). z.1) in
    let waiting = ap length x.waiting in
    let numbers = ap length x.numbers in
    let few = x.few in
    omega (arith, one, two, waiting, numbers, few)

-- all claims have a single list of owners
pub run_serves_truly : (c : Config) (steps : List Step) (s : State) → ComesTo c steps s → ServesTruly c steps
run_serves_truly c steps s came =
    let all = run_fully_explained c (initial c) s steps [] [] (start_fully_explained c came.config) came.run in
    let one = subst (λ (past : List Step). FullyExplains c past all.0 s) (append-nil (reverse steps)) all.1 in
    record {
      sound = record {
        owners = all.0;
        sound = one.explained.sound;
        tells = one.explained.tells;
        few = few_wait c (reverse steps) all.0 s one.explained;
      };
      asks = one.explained.asked_well;
      given = one.given;
      tries = one.tries;
      places = one.turns.places;
      turns = one.turns.turns;
      waiting = one.asked;
      uses = one.mirrored.uses;
      used = one.recent.used;
      recent = one.recent.uses;
    }

-- ---- continued runs

run_goes_on : (c : Config) (s mid s' : State) (steps more : List Step) → Run c s steps mid → Run c mid more s'
    → Run c s (steps ++ more) s'
run_goes_on c s mid s' [] more run rest = subst (λ (z : State). Run c z more s') run rest
run_goes_on c s mid s' (t ∷ steps) more run rest = (run.0, run.1, run_goes_on c run.0 mid s' steps more run.2 rest)

pub comes_on : (c : Config) (s s' : State) (steps more : List Step) → ComesTo c steps s → Run c s more s'
    → ComesTo c (steps ++ more) s'
comes_on c s s' steps more came run = record {
  config = came.config;
  run =
      run_goes_on c (initial c) s s' steps more came.run run;
}

-- a run of rows serves on truly
pub run_serves_on : (c : Config) (s s' : State) (more : List Step) → Run c s more s' → ServesOnTruly c s more
run_serves_on c s s' more run = λ steps came. run_serves_truly c (steps ++ more) s'
    (comes_on c s s' steps more came run)

-- a single row serves on truly
pub row_serves_on : (c : Config) (s : State) (h : StepInput) (o : Outcome) (s' : State) → Row c s h o s'
    → ServesOnTruly c s (record { input = h; outcome = o } ∷ [])
row_serves_on c s h o s' r = run_serves_on c s s' (record { input = h; outcome = o } ∷ []) (s', r, refl)

-- a stored step and its outcome lead to the next state
pub came_more : (c c' : Config) (steps steps' : List Step) (s s' : State) (h : StepInput) (o : Outcome) → c' ≡ c
    → steps' ≡ steps ++ record { input = h; outcome = o } ∷ []
    → ComesTo c steps s → Row c s h o s' → ComesTo c' steps' s'
came_more c c' steps steps' s s' h o same pushed came row =
    subst (λ (p : Config × List Step). ComesTo p.0 p.1 s') (λ i. (sym same i, sym pushed i))
    (comes_on c s s' steps (record { input = h; outcome = o } ∷ []) came (s', row, refl))
