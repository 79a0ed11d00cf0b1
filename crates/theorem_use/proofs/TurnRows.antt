-- Each row of the table sends at most one ask: the first of an inquiry, to its route's preferred
-- server, or the next after a failed ask.
use Rattle.std.proofs.Common.{◌≡◌, ◌∙◌, ℕ, ◌+◌, ◌%◌, List, [], ◌∷◌, ◌++◌, length, append-nil, Bool, true, false, refl, sym, ap, subst, inl, inr, Option, Some, None}
use Rattle.std.specs.Prelude.{map, filter, nat_le, nat_lt, get_or, slice_set, ◌==◌, ◌⊎◌, Result, Ok, Err}
use Rattle.std.specs.List.{AllByRecursion}
use Rattle.std.proofs.lemmas.Bool.{cond_both, cond-true, false≢true}
use Rattle.dns_message.specs.Header.{header_in}
use Rattle.dns_message.specs.declared.names.fault.Fault.{Fault}
use Rattle.dns_message.specs.Values.{Question, Message}
use Rattle.dns_message.specs.Messages.{message_of}
use Rattle.dns_message.specs.Questions.{one_question, is_unserved}
use Rattle.plain_values.specs.Octets.{AreOctets}
use Rattle.suffix_routes.specs.declared.peer.Peer.{Peer}
use Rattle.suffix_routes.specs.Values.{Config}
use Rattle.suffix_routes.specs.Serving.{serving_route_of, is_local}
use Rattle.outstanding.specs.declared.ask.Path.{Path}
use Rattle.outstanding.specs.Draws.{udp_draw, drawn_by_tcp}
use Rattle.outstanding.specs.Lists.{same_path, is_tcp, on_path as ask_on, of_question, without_path}
use Rattle.outstanding.specs.Values.{Ask}
use Rattle.outstanding.proofs.CallerLemmas.{same_path_reflexive}
use Rattle.reply_match.specs.declared.verdict.Verdict.{Verdict}
use Rattle.reply_match.specs.declared.verdict.Verdict.TheVariants.{Stranger, Truncated, Failed, Malformed, Whole}
use Rattle.reply_match.specs.Verdicts.{matches, judge}
use Rattle.retry_failover.specs.declared.Failure.{Failure}
use Rattle.retry_failover.specs.declared.Failure.TheVariants as failure
use Rattle.retry_failover.specs.declared.Next.{Next}
use Rattle.retry_failover.specs.declared.Next.TheVariants.{AskUdp, AskTcp, GiveUp}
use Rattle.retry_failover.specs.Table.{after_failure}
use Rattle.trust_rank.specs.declared.slot.Slot.{Slot}
use Rattle.trust_rank.specs.Values.{End, found, ends_no_data, ends_denied, elsewhere, lame, Walk}
use Rattle.trust_rank.specs.Walks.{most_aliases, walk_of, is_lame}
use Rattle.record_cache.specs.Values.{Held}
use Rattle.answer_builder.specs.Transports.{answer_of, local_answer_of}
use Rattle.step_values.specs.declared.event.Client.{Client}
use Rattle.step_values.specs.declared.action.Why.TheVariants.{Answered, QuestionsFull}
use Rattle.step_values.specs.declared.action.Why.TheVariants.{InquiriesFull, NoPort, Deadline, LocalDenied}
use Rattle.step_values.specs.Values.{Action, Delivered, Event, from_client, delivery, path_failed, tick, Step}
use Rattle.step_values.specs.Requests.{is_taken}
use Rattle.step_history.specs.Turns.{ByUdp, ByTcp, BringsCut}
use Rattle.step_table.specs.State.{State, start}
use Rattle.step_table.specs.WaitingQuestions.Values.{Waiting, waits_for}
use Rattle.step_table.specs.Attempts.{group_of, servers_in, peer_at, over_udp, over_tcp, preferred_on, first_ask_on, first_ask_for, freed_by, plan_of, next_ask}
use Rattle.alias_chains.specs.LookingUp.{LookUpEnd, ends, too_long, missed, LookUp, look_up}
use Rattle.step_table.specs.Steps.{Done, Fate, gets, waits, with_preferred_server, with_promoted, asks, ask_list, closing, replies, without_ask, still_waiting, reply_step, idle_step, closing_step, offering_step, fails, failed, gives_up, transport_of}
use Rattle.step_table.specs.Row.{effective}
use Rattle.step_table.specs.Ticks.{question, attempt, Item, first_item, left_alone, row_of_item, row_of_tick, deadline_of}
use Rattle.step_table.specs.Replies.{fate_by, used_by, to_be_asked, unless_no_port, timeout_of, row_of_next_name, row_of_redirected, row_of_end, row_of_acceptance, row_of_walk, row_of_message, row_of_verdict, row_of_delivery}
use Rattle.step_table.specs.Failures.{runs_out, row_of_attempt, row_of_next, row_of_failure, row_of_failed_path}
use Rattle.step_table.specs.Clients.{without_server, fate_at, fate_missed, fate_of, taken_now, row_of_opening, row_of_inquiry, row_of_fate, row_of_look_up, row_of_route, row_of_question, row_of_request}
use Rattle.step_table.proofs.CallerLemmas.{ask_on-is, IsAskBy, ask_by-some, udp-some, tcp-some}
use Rattle.theorem_sound.proofs.Actions.{Speaks}
use Rattle.theorem_sound.proofs.CallerLemmas.{IsHeard, matches_it, fates_speak, asked_next, asked_again}
use Rattle.theorem_sound.proofs.Failures.{fails_speak, sends_speak, runs_out_speak, waits_speak}
use Rattle.theorem_sound.proofs.Matching.{judged_match}
use Rattle.theorem_sound.proofs.Redirecting.{no_port_speaks}
use Rattle.theorem_sound.specs.Explains.{shown, Tried, Explains}
use Rattle.theorem_use.proofs.Asked.{NextHas}
use Rattle.theorem_use.proofs.Cuts.{not_by_udp, cut_by_udp, judged_cut, judged_uncut, udp_is, is_udp}

-- ---- events and replies

not_delivered : {d : Delivered} → None ≡ Some d → ⊥
not_delivered is = absurd (cc)

without_speaks : (c : Config) (n : ℕ) (y : Waiting) (aliases : List Held) (name : List (List ℕ))
    → Speaks (gets (without_server c n y aliases name))
without_speaks c n y aliases name = cond_both (is_local c name) _ _ (λ (v : Action). Speaks (gets v))
    (λ t. sends_speak LocalDenied y (local_answer_of y.asked aliases n (transport_of y.client)))
    (λ f. tt)

fate_speaks : (c : Config) (n : ℕ) (y : Waiting) (l : LookUp) → Speaks (fate_of c n y l)
fate_speaks c n y l = at l.met
  where
    on : (r : Option ℕ) → Speaks (fate_missed c n y l r)
    on None = without_speaks c n y l.held l.wanted.name
    on (Some route) = tt

    at : (m : LookUpEnd) → Speaks (fate_at c n y l m)
    at (ends e) = sends_speak Answered y (answer_of y.asked (l.held ++ e ∷ []) n (transport_of y.client))
    at too_long = tt
    at missed = on (serving_route_of c l.wanted.name)

module _ (c : Config) (past : List Step) (w : List (List ℕ)) (s : State) (x : Explains c past w s) (now : ℕ)
    (words : List ℕ) (unkept : ℕ) (more : Bool) where
  abbrev pub n : ℕ
  n = effective now s

  abbrev pub told : Event → Done → Step
  told e d = record {
    input = record { now = now; words = words; event = e };
    outcome = record { actions = d.actions; unkept = unkept; more = more };
  }

  -- the first ask of an inquiry goes by UDP to the preferred server
  pub record IsFirst (preferred : List ℕ) (b : Ask) : Type 0 where
    pub used : b.used ≡ 1
    pub by_udp : ByUdp b.path
    pub server : b.server ≡ get_or preferred b.route 0

  -- the ask after a failed one, by whether a reply was truncated
  pub record IsNext (Cut : Type 0) (b : Ask) : Type 0 where
    pub failed : Ask
    pub on : ask_on failed.path s.asks ≡ Some failed
    pub question : b.question ≡ failed.question
    pub used : b.used ≡ failed.used + 1
    pub turn : (Cut × ByTcp b.path × (b.server ≡ failed.server))
        ⊎ ((Cut → ⊥) × ByUdp b.path × (b.server ≡ (failed.server + 1) % length (servers_in (group_of c b.route))))

  -- the row closes at most one ask, and sends at most one; these servers are preferred after it
  pub record Moves (e : Event) (preferred : List ℕ) (d : Done) : Type 0 where
    pub close : Option Ask
    pub fates : List Fate
    pub next : Option Ask
    pub actions : d.actions ≡ closing close ++ (replies fates ++ map asks (ask_list next))
    pub speak : AllByRecursion Speaks fates
    pub asks_are : d.state.asks ≡ without_ask close s.asks ++ ask_list next
    pub preferred_are : d.state.preferred ≡ preferred
    pub turn : NextHas (λ b. IsFirst preferred b ⊎ IsNext (BringsCut c (told e d) past) b) next

  idle : (e : Event) → Moves e s.preferred (idle_step n s)
  idle e = record {
    close = None;
    fates = [];
    next = None;
    actions = refl;
    speak = tt;
    asks_are = sym (append-nil s.asks);
    preferred_are = refl;
    turn = tt;
  }

  own_path : (path : Path) (a : Ask) → ask_on path s.asks ≡ Some a → ask_on a.path s.asks ≡ Some a
  own_path path a on = ap (λ (p : Path). ask_on p s.asks) (ask_on-is (Tried c past) path s.asks a on x.tried).0 ∙ on

  first_is : (q : Question) (z : State) (b : Ask) (r : Option ℕ) → first_ask_on (start c n words z) q r ≡ Some b
      → IsFirst z.preferred b
  first_is q z b None is = absurd (cc)
  first_is q z b (Some route) is =
      let facts : IsAskBy n q route (preferred_on z route) 1 (peer_at c route (preferred_on z route))
      (over_udp (udp_draw words z.asks None)) b =
      ask_by-some n q route (preferred_on z route) 1 (peer_at c route (preferred_on z route))
      (over_udp (udp_draw words z.asks None)) b is in
      let draw = udp-some (udp_draw words z.asks None) b.id b.path facts.drawn_is in
      record {
        used = facts.used_is;
        by_udp = subst ByUdp (sym draw.1) tt;
        server = facts.server_is ∙ ap (λ (k : ℕ). get_or z.preferred k 0) (sym facts.route_is);
      }

  -- ---- a failed ask

  module _ (e : Event) (a : Ask) (on : ask_on a.path s.asks ≡ Some a) (f : Failure)
      (cut : (d : Done) → f ≡ failure.Truncated → is_tcp a.path ≡ false → BringsCut c (told e d) past)
      (uncut : (d : Done) → (f ≡ failure.Truncated → is_tcp a.path ≡ false → ⊥) → BringsCut c (told e d) past → ⊥)
    where
      ended : (fate : Waiting → Fate) → AllByRecursion Speaks (map fate s.waiting)
          → Moves e s.preferred (closing_step n a fate None s)
      ended fate speak = record {
        close = Some a;
        fates = map fate s.waiting;
        next = None;
        actions = refl;
        speak = speak;
        asks_are = refl;
        preferred_are = refl;
        turn = tt;
      }

      went_on : (b : Ask) → ((d : Done) → IsNext (BringsCut c (told e d) past) b)
          → Moves e s.preferred (closing_step n a (λ y. waits y) (Some b) s)
      went_on b is_next = record {
        close = Some a;
        fates = map (λ y. waits y) s.waiting;
        next = Some b;
        actions = refl;
        speak = waits_speak s.waiting;
        asks_are = refl;
        preferred_are = refl;
        turn = inr (is_next (closing_step n a (λ y. waits y) (Some b) s));
      }

      udp_row : (server : ℕ) → after_failure (plan_of c a) f ≡ AskUdp server → (r : Option Ask)
          → next_ask (start c n words s) a (AskUdp server) ≡ r → Moves e s.preferred (row_of_attempt n a s r)
      udp_row server is None none = ended (fails NoPort a.question) (fails_speak NoPort a.question s.waiting)
      udp_row server is (Some b) some =
          let facts : IsAskBy n a.question a.route server (a.used + 1) (peer_at c a.route server)
          (over_udp (udp_draw words s.asks (freed_by a.path))) b =
          ask_by-some n a.question a.route server (a.used + 1) (peer_at c a.route server)
          (over_udp (udp_draw words s.asks (freed_by a.path))) b some in
          let draw = udp-some (udp_draw words s.asks (freed_by a.path)) b.id b.path facts.drawn_is in
          went_on b (λ d. record {
            failed = a;
            on = on;
            question = facts.question;
            used = facts.used_is;
            turn = inr (
              uncut d (not_by_udp (a.used == c.limits.tries) (is_tcp a.path) f (plan_of c a) server is),
              subst ByUdp (sym draw.1) tt,
              facts.server_is ∙ asked_next (a.used == c.limits.tries) (is_tcp a.path) f (plan_of c a) server is
                  ∙ ap (λ (k : ℕ). (a.server + 1) % length (servers_in (group_of c k))) (sym facts.route_is),
            );
          })

      tcp_row : (server : ℕ) → after_failure (plan_of c a) f ≡ AskTcp server → (r : Option Ask)
          → next_ask (start c n words s) a (AskTcp server) ≡ r → Moves e s.preferred (row_of_attempt n a s r)
      tcp_row server is None none = ended (fails NoPort a.question) (fails_speak NoPort a.question s.waiting)
      tcp_row server is (Some b) some =
          let facts : IsAskBy n a.question a.route server (a.used + 1) (peer_at c a.route server)
          (over_tcp (drawn_by_tcp words s.tcp_asks)) b =
          ask_by-some n a.question a.route server (a.used + 1) (peer_at c a.route server)
          (over_tcp (drawn_by_tcp words s.tcp_asks)) b some in
          let draw = tcp-some (drawn_by_tcp words s.tcp_asks) b.id b.path facts.drawn_is in
          let why = cut_by_udp (a.used == c.limits.tries) (is_tcp a.path) f (plan_of c a) server is in
          went_on b (λ d. record {
            failed = a;
            on = on;
            question = facts.question;
            used = facts.used_is;
            turn = inl (
              cut d why.0 why.1,
              subst ByTcp (sym draw.1) tt,
              facts.server_is ∙ asked_again (a.used == c.limits.tries) (is_tcp a.path) f (plan_of c a) server is,
            );
          })

      failure_row : Moves e s.preferred (row_of_failure (start c n words s) a f)
      failure_row = by (after_failure (plan_of c a) f) refl
        where
          by : (v : Next) → after_failure (plan_of c a) f ≡ v → Moves e s.preferred (row_of_next (start c n words s) a v)
          by (AskUdp server) is = udp_row server is (next_ask (start c n words s) a (AskUdp server)) refl
          by (AskTcp server) is = tcp_row server is (next_ask (start c n words s) a (AskTcp server)) refl
          by GiveUp is = ended (runs_out c n s.cache.entries a.question)
              (runs_out_speak c n s.cache.entries a.question s.waiting)

  -- ---- a client's message

  module _ (client : Client) (octets : List ℕ) where
    abbrev M : Done → Type 0
    M = Moves (from_client client octets) s.preferred

    replied : (used : List Slot) (v : Action) → Speaks (gets v) → M (reply_step n v (with_promoted used s))
    replied used v speaks = record {
      close = None;
      fates = gets v ∷ [];
      next = None;
      actions = refl;
      speak = (speaks, tt);
      asks_are = sym (append-nil s.asks);
      preferred_are = refl;
      turn = tt;
    }

    refused : (v : Action) → Speaks (gets v) → M (reply_step n v s)
    refused v speaks = record {
      close = None;
      fates = gets v ∷ [];
      next = None;
      actions = refl;
      speak = (speaks, tt);
      asks_are = sym (append-nil s.asks);
      preferred_are = refl;
      turn = tt;
    }

    opening_row : (used : List Slot) (y : Waiting) (r : Option Ask)
        → first_ask_for (start c n words (with_promoted used s)) y.wanted ≡ r
        → M (row_of_opening n y (with_promoted used s) r)
    opening_row used y None is = replied used (gives_up NoPort y) tt
    opening_row used y (Some b) is = record {
      close = None;
      fates = [];
      next = Some b;
      actions = refl;
      speak = tt;
      asks_are = refl;
      preferred_are = refl;
      turn = inl (first_is y.wanted (with_promoted used s) b (serving_route_of c y.wanted.name) is);
    }

    inquiry_row : (used : List Slot) (y : Waiting) (r : Option Ask)
        → M (row_of_inquiry (start c n words (with_promoted used s)) y r)
    inquiry_row used y None = cond_both (nat_le c.limits.inquiries (length s.asks)) _ _ M
        (λ t. replied used (gives_up InquiriesFull y) tt)
        (λ f. opening_row used y (first_ask_for (start c n words (with_promoted used s)) y.wanted) refl)
    inquiry_row used y (Some a) = record {
      close = None;
      fates = [];
      next = None;
      actions = refl;
      speak = tt;
      asks_are = refl;
      preferred_are = refl;
      turn = tt;
    }

    fate_row : (used : List Slot) (v : Fate) → Speaks v → M (row_of_fate (start c n words (with_promoted used s)) v)
    fate_row used (gets reply) speaks = replied used reply speaks
    fate_row used (waits y) speaks = cond_both (nat_le c.limits.questions (length s.waiting)) _ _ M
        (λ t. replied used (gives_up QuestionsFull y) tt)
        (λ f. inquiry_row used y (of_question y.wanted s.asks))

    looked : (y : Waiting) (l : LookUp) → M (row_of_look_up (start c n words s) y l)
    looked y l = fate_row l.used (fate_of c n y l) (fate_speaks c n y l)

    routed : (y : Waiting) (r : Option ℕ) → M (row_of_route (start c n words s) y r)
    routed y None = refused (without_server c n y [] y.wanted.name) (without_speaks c n y [] y.wanted.name)
    routed y (Some route) = looked y (look_up c.routes n s.cache.entries most_aliases [] y.wanted)

    asked : (r : Option Question) → M (row_of_question (start c n words s) client (header_in octets) r)
    asked None = refused _ tt
    asked (Some q) = cond_both (is_unserved q) _ _ M (λ t. refused _ tt)
        (λ f. routed (taken_now n client (header_in octets) q) (serving_route_of c q.name))

    pub request_row : M (row_of_request (start c n words s) client octets)
    request_row = cond_both (is_taken octets) _ _ M
        (λ t. cond_both ((header_in octets).opcode == 0) _ _ M (λ z. asked (one_question octets)) (λ z. refused _ tt))
        (λ f. idle (from_client client octets))

  -- ---- the passing of time, and a failed path

  question_row : (y : Waiting) (others : List Waiting)
      → Moves tick s.preferred (row_of_item (start c n words s) (question y others))
  question_row y others = cond_both (nat_le (deadline_of c y) n) _ _ (Moves tick s.preferred)
      (λ t. record {
        close = left_alone y.wanted others s.asks;
        fates = gets (gives_up Deadline y) ∷ map (λ z. waits z) others;
        next = None;
        actions = refl;
        speak = (tt, waits_speak others);
        asks_are = refl;
        preferred_are = refl;
        turn = tt;
      })
      (λ f. idle tick)

  attempt_row : (a : Ask) (others : List Ask) → s.asks ≡ a ∷ others
      → Moves tick s.preferred (row_of_item (start c n words s) (attempt a))
  attempt_row a others first = cond_both (nat_le (timeout_of c a) n) _ _ (Moves tick s.preferred)
      (λ t. failure_row tick a (ap (ask_on a.path) first
      ∙ cond-true (same_path a.path a.path) _ _ (same_path_reflexive a.path)) failure.TimedOut
      (λ d cut udp. absurd (cc))
      (λ d uncut k. not_delivered k.matches.delivered))
      (λ f. idle tick)

  item_row : (ws : List Waiting) → (listed : List Ask) → s.asks ≡ listed
      → Moves tick s.preferred (row_of_item (start c n words s) (first_item c ws listed))
  item_row [] [] as_is = idle tick
  item_row [] (a ∷ others) as_is = attempt_row a others as_is
  item_row (y ∷ ys) [] as_is = question_row y ys
  item_row (y ∷ ys) (a ∷ others) as_is =
      cond_both (nat_le (deadline_of c y) (timeout_of c a)) (question y ys) (attempt a)
      (λ (i : Item). Moves tick s.preferred (row_of_item (start c n words s) i))
      (λ _. question_row y ys)
      (λ _. attempt_row a others as_is)

  pub tick_row : Moves tick s.preferred (row_of_tick (start c n words s))
  tick_row = item_row s.waiting s.asks refl

  pub path_row : (path : Path) (r : Option Ask) → ask_on path s.asks ≡ r
      → Moves (path_failed path) s.preferred (row_of_failed_path (start c n words s) r)
  path_row path None on = idle (path_failed path)
  path_row path (Some a) on = failure_row (path_failed path) a (own_path path a on) failure.Broken
      (λ d cut udp. absurd (cc))
      (λ d uncut k. not_delivered k.matches.delivered)

  -- ---- a delivery

  module _ (path : Path) (from : Peer) (octets : List ℕ) (rooms : List Bool) (are : AreOctets octets) where
    abbrev event : Event
    event = delivery path from octets

    abbrev Heard : Type 0
    Heard = IsHeard c past w s x now words unkept more path from octets rooms are

    -- the delivery is accepted, and its server preferred, or not
    abbrev pub MovesBy : Done → Type 0
    MovesBy d = ((h : Heard) × Moves event (slice_set s.preferred h.ask.route h.ask.server) d)
        ⊎ ((Heard → ⊥) × Moves event s.preferred d)

    module _ (a : Ask) (there : ask_on path s.asks ≡ Some a) (live : nat_lt n (timeout_of c a) ≡ true) where
      on : ask_on a.path s.asks ≡ Some a
      on = own_path path a there

      path_is : a.path ≡ path
      path_is = (ask_on-is (Tried c past) path s.asks a there x.tried).0

      same_ask : (h : Heard) → h.ask ≡ a
      same_ask h = let one : Some h.ask ≡ Some a = sym h.on ∙ there in let same : h.ask ≡ a = cc in same

      abbrev came : Delivered
      came = record { path = path; from = from; octets = octets }

      abbrev awaited : (d : Done) → BringsCut c (told event d) past → Delivered
      awaited d k = record { path = k.ask.path; from = k.ask.server; octets = k.octets }

      delivers : (d : Done) (k : BringsCut c (told event d) past) → came ≡ awaited d k
      delivers d k =
          let same : Some came ≡ Some (awaited d k) = k.matches.delivered in
          let is : came ≡ awaited d k = cc in
          is

      cut_is : (d : Done) → BringsCut c (told event d) past → ((header_in octets).tc ≡ true) × (is_tcp a.path ≡ false)
      cut_is d k = (
        ap (λ (z : Delivered). (header_in z.octets).tc) (delivers d k) ∙ k.cut,
        ap is_tcp (path_is ∙ ap (λ (z : Delivered). z.path) (delivers d k)) ∙ udp_is k.ask.path k.by_udp,
      )

      -- the ask failed, by a reply that is not truncated
      fell : (f : Failure) → (f ≡ failure.Truncated → ⊥) → (judge a from octets ≡ Stranger → ⊥)
          → (judge a from octets ≡ Truncated → ⊥) → Moves event s.preferred (row_of_failure (start c n words s) a f)
      fell f other known whole = failure_row event a on f
          (λ d cut udp. absurd (other cut))
          (λ d uncut k. judged_uncut from octets a known whole (cut_is d k).0)

      cut_row : judge a from octets ≡ Truncated
          → Moves event s.preferred (row_of_failure (start c n words s) a failure.Truncated)
      cut_row is = failure_row event a on failure.Truncated
          (λ d cut udp. record {
            ask = shown a;
            asked = a.question;
            octets = octets;
            matches = matches_it c past w s x now words unkept more path from octets rooms are a there live
                (judged_match from octets a Truncated is tt) d.actions;
            cut = judged_cut from octets a is;
            by_udp = is_udp a.path udp;
          })
          (λ d uncut k. uncut refl (cut_is d k).1)

      unheard : {d : Done} → (judge a from octets ≡ Whole → ⊥) → Moves event s.preferred d → MovesBy d
      unheard other moves = inr (λ h. other (subst (λ (z : Ask). judge z from octets ≡ Whole) (same_ask h) h.whole), moves)

      -- ---- an accepted reply

      module _ (m : Message) (whole : judge a from octets ≡ Whole) (read : message_of octets ≡ Ok m)
          (fine : is_lame (walk_of c m a.question a.route).end ≡ false) where
        abbrev walk : Walk
        walk = walk_of c m a.question a.route

        abbrev fate : Waiting → Fate
        fate = fate_by c n s.cache.entries a walk

        abbrev preferred : List ℕ
        preferred = slice_set s.preferred a.route a.server

        speaks : AllByRecursion Speaks (map fate s.waiting)
        speaks = fates_speak c past w s x now words unkept more path from octets rooms are a there m live whole read fine

        abbrev after : List Slot → State
        after used = with_promoted used (with_preferred_server a s)

        abbrev offered : Done → Done
        offered d = offering_step n rooms (walk.pieces ++ walk.authority) d

        closed : (used : List Slot) (fate' : Waiting → Fate) → AllByRecursion Speaks (map fate' s.waiting) → (next : Option Ask)
            → NextHas (IsFirst preferred) next
            → Moves event preferred (offered (closing_step n a fate' next (after used)))
        closed used fate' speak next turn = record {
          close = Some a;
          fates = map fate' s.waiting;
          next = next;
          actions = refl;
          speak = speak;
          asks_are = refl;
          preferred_are = refl;
          turn = by next turn;
        }
          where
            by : (o : Option Ask) → NextHas (IsFirst preferred) o
                → NextHas (λ b. IsFirst preferred b ⊎ IsNext (BringsCut c (told event (offered (closing_step n a fate' next (after used)))) past) b) o
            by None turn = tt
            by (Some b) turn = inl turn

        name_row : (used : List Slot) (q : Question) (r : Option Ask)
            → first_ask_for (start c n words (record (after used) { asks = without_path a.path s.asks })) q ≡ r
            → Moves event preferred (offered (row_of_next_name n a fate (after used) r))
        name_row used q None is = closed used (unless_no_port fate a.question)
            (no_port_speaks fate a.question s.waiting speaks) None tt
        name_row used q (Some b) is = closed used fate speaks (Some b)
            (first_is q (record (after used) { asks = without_path a.path s.asks }) b (serving_route_of c q.name) is)

        sent_row : (used : List Slot) (r : Option Question)
            → Moves event preferred (offered (row_of_redirected (start c n words (after used)) a fate r))
        sent_row used None = closed used fate speaks None tt
        sent_row used (Some q) = name_row used q
            (first_ask_for (start c n words (record (after used) { asks = without_path a.path s.asks })) q) refl

        end_row : (e : End)
            → Moves event preferred (offered (row_of_end (start c n words (with_preferred_server a s)) a walk fate e))
        end_row found = closed [] fate speaks None tt
        end_row ends_no_data = closed [] fate speaks None tt
        end_row ends_denied = closed [] fate speaks None tt
        end_row lame = closed [] fate speaks None tt
        end_row (elsewhere name) = sent_row (used_by c n s.cache.entries a walk s.waiting)
            (to_be_asked (without_path a.path s.asks) (still_waiting (map fate (filter (waits_for a.question) s.waiting))))

        -- the parts of the accepted delivery
        it_is_heard : Heard
        it_is_heard = record {
          ask = a;
          on = there;
          live = live;
          whole = whole;
          message = m;
          read = read;
          fine = fine;
          carried = walk.pieces ++ walk.authority;
          carried_are = refl;
          asked = a.question;
          asked_is = refl;
          end = walk.end;
          end_is = refl;
        }

        accepted_row : MovesBy (row_of_acceptance (start c n words s) rooms a walk)
        unfolding it_is_heard
        accepted_row = inl (it_is_heard, end_row walk.end)

      walk_row : (m : Message) → judge a from octets ≡ Whole → message_of octets ≡ Ok m
          → MovesBy (row_of_walk (start c n words s) rooms a (walk_of c m a.question a.route))
      walk_row m whole read = cond_both (is_lame (walk_of c m a.question a.route).end) _ _ MovesBy
          (λ t. inr (
            (λ h. unlike h (same_ask h) t),
            fell failure.Lame (λ e. absurd (cc)) (λ e. absurd (let bad : Stranger ≡ Whole = sym e ∙ whole in cc))
                (λ e. absurd (let bad : Truncated ≡ Whole = sym e ∙ whole in cc)),
          ))
          (λ f. accepted_row m whole read f)
        where
          unlike : (h : Heard) → h.ask ≡ a → is_lame (walk_of c m a.question a.route).end ≡ true → ⊥
          unlike h same t =
              let one : Ok h.message ≡ Ok m = sym h.read ∙ read in
              let message_is : h.message ≡ m = cc in
              false≢true (sym h.fine ∙ (λ i. is_lame (walk_of c (message_is i) (same i).question (same i).route).end) ∙ t)

      message_row : judge a from octets ≡ Whole → (r : Result Message Fault) → message_of octets ≡ r
          → MovesBy (row_of_message (start c n words s) rooms a r)
      message_row whole (Ok m) read = walk_row m whole read
      message_row whole (Err fault) read = inr (
        (λ h. let e : Ok h.message ≡ Err fault = sym h.read ∙ read in absurd (cc)),
        fell failure.Malformed (λ e. absurd (cc)) (λ e. absurd (let bad : Stranger ≡ Whole = sym e ∙ whole in cc))
            (λ e. absurd (let bad : Truncated ≡ Whole = sym e ∙ whole in cc)),
      )

      verdict_row : (v : Verdict) → judge a from octets ≡ v → MovesBy (row_of_verdict (start c n words s) rooms a octets v)
      verdict_row Stranger is = unheard (λ e. absurd (let bad : Stranger ≡ Whole = sym is ∙ e in cc)) (idle event)
      verdict_row Truncated is = unheard (λ e. absurd (let bad : Truncated ≡ Whole = sym is ∙ e in cc)) (cut_row is)
      verdict_row (Failed rcode) is = unheard (λ e. absurd (let bad : Failed rcode ≡ Whole = sym is ∙ e in cc))
          (fell failure.Rcode (λ e. absurd (cc)) (λ e. absurd (let bad : Stranger ≡ Failed rcode = sym e ∙ is in cc))
          (λ e. absurd (let bad : Truncated ≡ Failed rcode = sym e ∙ is in cc)))
      verdict_row Malformed is = unheard (λ e. absurd (let bad : Malformed ≡ Whole = sym is ∙ e in cc))
          (fell failure.Malformed (λ e. absurd (cc)) (λ e. absurd (let bad : Stranger ≡ Malformed = sym e ∙ is in cc))
          (λ e. absurd (let bad : Truncated ≡ Malformed = sym e ∙ is in cc)))
      verdict_row Whole is = message_row is (message_of octets) refl

    pub delivery_row : (r : Option Ask) → ask_on path s.asks ≡ r
        → MovesBy (row_of_delivery (start c n words s) rooms from octets r)
    delivery_row None none = inr ((λ h. let e : Some h.ask ≡ None = sym h.on ∙ none in absurd (cc)), idle event)
    delivery_row (Some a) there = cond_both (nat_lt n (timeout_of c a)) _ _ MovesBy
        (λ t. verdict_row a there t (judge a from octets) refl)
        (λ f. inr (
          (λ h.
              let one : Some h.ask ≡ Some a = sym h.on ∙ there in
              let same : h.ask ≡ a = cc in
              false≢true (sym f ∙ ap (λ (z : Ask). nat_lt n (timeout_of c z)) (sym same) ∙ h.live)),
          idle event,
        ))
