-- After each row of the table waiting questions and asks serve each other.
use Rattle.std.proofs.Common.{◌≡◌, ◌∙◌, ℕ, ◌+◌, ◌≤◌, arith, List, [], ◌∷◌, ◌++◌, length, append-nil, Bool, true, false, cond, refl, sym, ap, subst, inl, inr, Option, Some, None}
use Rattle.std.specs.Prelude.{map, filter, nat_le, nat_lt, ◌==◌, ◌||◌, Result, Ok, Err}
use Rattle.std.specs.List.{list_any, AllByRecursion}
use Rattle.std.proofs.lemmas.Bool.{cond_both, cond-true, cond-false, true≢false, false≢true}
use Rattle.std.proofs.lemmas.List.{length-append}
use Rattle.dns_message.specs.Header.{header_in}
use Rattle.dns_message.specs.declared.names.fault.Fault.{Fault}
use Rattle.dns_message.specs.Values.{Question, Message}
use Rattle.dns_message.specs.Messages.{HasShapes, message_of}
use Rattle.dns_message.specs.Questions.{same_question, one_question, is_unserved}
use Rattle.dns_message.proofs.CallerLemmas.{spelled_message_has_shapes}
use Rattle.suffix_routes.specs.declared.peer.Peer.{Peer}
use Rattle.suffix_routes.specs.Values.{Config}
use Rattle.suffix_routes.specs.Routes.{route_of}
use Rattle.suffix_routes.proofs.CallerLemmas.{serving_is}
use Rattle.outstanding.specs.declared.ask.Path.{Path}
use Rattle.outstanding.specs.declared.ask.Path.TheVariants.{Udp, Tcp}
use Rattle.outstanding.specs.Draws.{udp_draw, drawn_by_tcp}
use Rattle.outstanding.specs.Lists.{same_path, on_path as ask_on, of_question, without_path, AreInTurn}
use Rattle.outstanding.specs.Values.{Ask}
use Rattle.outstanding.proofs.CallerLemmas.{same_path_reflexive}
use Rattle.reply_match.specs.declared.verdict.Verdict.{Verdict}
use Rattle.reply_match.specs.declared.verdict.Verdict.TheVariants.{Stranger, Truncated, Failed, Malformed, Whole}
use Rattle.reply_match.specs.Verdicts.{judge}
use Rattle.retry_failover.specs.declared.Failure.{Failure}
use Rattle.retry_failover.specs.declared.Failure.TheVariants as failure
use Rattle.retry_failover.specs.declared.Next.{Next}
use Rattle.retry_failover.specs.declared.Next.TheVariants.{AskUdp, AskTcp, GiveUp}
use Rattle.retry_failover.specs.Table.{after_failure}
use Rattle.trust_rank.specs.declared.slot.Slot.{Slot}
use Rattle.trust_rank.specs.Values.{Piece, End, found, ends_no_data, ends_denied, elsewhere, lame, Walk, reply_of}
use Rattle.trust_rank.specs.Walks.{most_aliases, walk_of, is_lame, has_last}
use Rattle.trust_rank.specs.Laws.{EndsSo, Closes}
use Rattle.trust_rank.proofs.CallerLemmas.{walk_leads}
use Rattle.record_cache.specs.Values.{Held}
use Rattle.step_values.specs.declared.event.Client.{Client}
use Rattle.step_values.specs.declared.action.Why.TheVariants.{NoPort, Deadline}
use Rattle.step_values.specs.Values.{Action, Event, from_client, delivery, path_failed, tick, restart, Step}
use Rattle.suffix_routes.specs.Serving.{serving_route_of}
use Rattle.step_values.specs.Requests.{is_taken}
use Rattle.step_table.specs.State.{State, start}
use Rattle.step_table.specs.WaitingQuestions.Values.{Waiting, waits_for}
use Rattle.step_table.specs.Attempts.{peer_at, over_udp, over_tcp, preferred_on, first_ask_on, first_ask_for, freed_by, plan_of, next_ask}
use Rattle.alias_chains.specs.LookingUp.{LookUp, look_up}
use Rattle.step_history.specs.History.{closes_path}
use Rattle.step_table.specs.Steps.{Done, Fate, gets, waits, waiting_in, with_preferred_server, with_promoted, still_waiting, asks_by, asks, ask_list, closes, without_ask, gives_up}
use Rattle.step_table.specs.Row.{Happens}
use Rattle.step_table.specs.Ticks.{question, attempt, Item, first_item, left_alone, expiry_step, row_of_item, row_of_tick, deadline_of}
use Rattle.step_table.specs.Replies.{fate_by, ends_at, unless_many, used_by, to_be_asked, unless_open, without_port, unless_no_port, timeout_of, row_of_next_name, row_of_redirected, row_of_end, row_of_acceptance, row_of_walk, row_of_message, row_of_verdict, row_of_delivery}
use Rattle.step_table.specs.Failures.{with_stale_ttl, found_stale, row_of_attempt, row_of_next, row_of_failure, row_of_failed_path}
use Rattle.step_table.specs.Clients.{fate_of, taken_now, row_of_opening, row_of_inquiry, row_of_fate, row_of_look_up, row_of_route, row_of_question, row_of_request}
use Rattle.step_table.proofs.Redirected.{redirected_questions_want_one}
use Rattle.step_table.proofs.CallerLemmas.{All-weaker, looked_at_end, ask_on-is, ask_by-some, none_same, of_question-is, own_on}
use Rattle.theorem_sound.specs.Explains.{Tried}
use Rattle.theorem_sound.proofs.Messages.{read_spells}
use Rattle.theorem_use.specs.Asking.{AnyByRecursion, AreServed}
use Rattle.theorem_use.proofs.Asked.{any_weaker, any_with, any_first, any_last, same_as_itself, same_turned, same_through, of_question_any, FateHas, each_fate, each_was, any_picked, all_wait_on, NextHas, Spelled, AreServedOn, all_spelled, unchanged, taken_on, closed_on}

-- ---- a first ask is for the given question

first_asks : (c : Config) (n : ℕ) (words : List ℕ) (q : Question) (s : State) (a : Ask)
    → first_ask_for (start c n words s) q ≡ Some a → a.question ≡ q
first_asks c n words q s a is = by (serving_route_of c q.name) is
  where
    by : (r : Option ℕ) → first_ask_on (start c n words s) q r ≡ Some a → a.question ≡ q
    by None is = absurd (cc)
    by (Some route) is = (ask_by-some n q route (preferred_on s route) 1 (peer_at c route (preferred_on s route))
        (over_udp (udp_draw words s.asks None)) a is).question

next_asks : (c : Config) (n : ℕ) (words : List ℕ) (a : Ask) (s : State) (v : Next) (d : Ask)
    → next_ask (start c n words s) a v ≡ Some d → d.question ≡ a.question
next_asks c n words a s (AskUdp server) d is =
    (ask_by-some n a.question a.route server (a.used + 1) (peer_at c a.route server)
    (over_udp (udp_draw words s.asks (freed_by a.path))) d is).question
next_asks c n words a s (AskTcp server) d is =
    (ask_by-some n a.question a.route server (a.used + 1) (peer_at c a.route server)
    (over_tcp (drawn_by_tcp words s.tcp_asks)) d is).question
next_asks c n words a s GiveUp d is = absurd (cc)

-- the ask after `a` is a try later than `a`
next_used : (c : Config) (n : ℕ) (words : List ℕ) (a : Ask) (s : State) (v : Next) (d : Ask)
    → next_ask (start c n words s) a v ≡ Some d → d.used ≡ a.used + 1
next_used c n words a s (AskUdp server) d is =
    (ask_by-some n a.question a.route server (a.used + 1) (peer_at c a.route server)
    (over_udp (udp_draw words s.asks (freed_by a.path))) d is).used_is
next_used c n words a s (AskTcp server) d is =
    (ask_by-some n a.question a.route server (a.used + 1) (peer_at c a.route server)
    (over_tcp (drawn_by_tcp words s.tcp_asks)) d is).used_is
next_used c n words a s GiveUp d is = absurd (cc)

-- ---- the paths closed by actions

-- an ask closes nothing
asks_close_none : (o : Option Ask) (path : Path) → closes_path path (map asks (ask_list o)) ≡ false
asks_close_none None path = refl
asks_close_none (Some a) path = by a.path
  where
    by : (p : Path) → closes_path path (asks_by p a ∷ []) ≡ false
    by (Udp port) = refl
    by (Tcp conn) = refl

-- a path given up by the first action is closed
closes_first : (path : Path) (more : List Action) → closes_path path (closes path ∷ more) ≡ true
closes_first (Udp port) more = ap (λ (v : Bool). v || closes_path (Udp port) more) (same_path_reflexive (Udp port))
closes_first (Tcp conn) more = ap (λ (v : Bool). v || closes_path (Tcp conn) more) (same_path_reflexive (Tcp conn))

-- ---- the parts of an accepted delivery

abbrev pub GivesIfHeard : Config → ℕ → State → Type 0 → Event → Type 0
GivesIfHeard c n s Accepted (delivery path from octets) =
    (a : Ask) → ask_on path s.asks ≡ Some a → (m : Message) → nat_lt n (timeout_of c a) ≡ true
    → judge a from octets ≡ Whole → message_of octets ≡ Ok m
    → is_lame (walk_of c m a.question a.route).end ≡ false → Accepted
GivesIfHeard c n s Accepted (from_client client octets) = Unit {0}
GivesIfHeard c n s Accepted (path_failed path) = Unit {0}
GivesIfHeard c n s Accepted tick = Unit {0}
GivesIfHeard c n s Accepted restart = Unit {0}

-- ---- lists

all_of : {X : Type 0} (P : X → Type 0) → ((x : X) → P x) → (xs : List X) → AllByRecursion P xs
all_of P each [] = tt
all_of P each (x ∷ xs) = (each x, all_of P each xs)

any_passes : {X : Type 0} (test : X → Bool) (xs : List X) → list_any test xs ≡ true
    → AnyByRecursion (λ x. test x ≡ true) xs
any_passes test [] t = absurd (true≢false (sym t))
any_passes test (x ∷ xs) t = by (any_passes test xs) (test x) refl t
  where
    by : (list_any test xs ≡ true → AnyByRecursion (λ y. test y ≡ true) xs) → (v : Bool) → test x ≡ v
        → (v || list_any test xs) ≡ true → AnyByRecursion (λ y. test y ≡ true) (x ∷ xs)
    by behind true is t = inl is
    by behind false isnt t = inr (behind t)

none_passes : {X : Type 0} (test : X → Bool) (xs : List X) → list_any test xs ≡ false
    → AllByRecursion (λ x. test x ≡ false) xs
none_passes test [] f = tt
none_passes test (x ∷ xs) f = by (none_passes test xs) (test x) refl f
  where
    by : (list_any test xs ≡ false → AllByRecursion (λ y. test y ≡ false) xs) → (v : Bool) → test x ≡ v
        → (v || list_any test xs) ≡ false → AllByRecursion (λ y. test y ≡ false) (x ∷ xs)
    by behind true is f = absurd (true≢false f)
    by behind false isnt f = (isnt, behind f)

nothing_any : {X : Type 0} (xs : List X) → AnyByRecursion (λ x. ⊥) xs → ⊥
nothing_any [] any = any
nothing_any (x ∷ xs) (inl here) = here
nothing_any (x ∷ xs) (inr later) = nothing_any xs later

-- ---- each row

module _ (c : Config) (n : ℕ) (words : List ℕ) (s : State) (served : AreServed s.asks s.waiting)
    (by_arrival : AreInTurn s.asks) (Accepted : Type 0) where
  -- after the step waiting questions and asks serve each other
  abbrev pub K : Done → Type 0
  K d = AreServedOn Accepted d.actions s.asks d.state.asks d.state.waiting

  same : {actions : List Action} → AreServedOn Accepted actions s.asks s.asks s.waiting
  same {actions} = unchanged Accepted actions s.asks s.waiting served

  -- ---- an ask is closed

  module _ (a : Ask) (on : ask_on a.path s.asks ≡ Some a) where
    abbrev others : List Ask
    others = without_path a.path s.asks

    abbrev Asked : Option Ask → Waiting → Type 0
    Asked next y = AnyByRecursion (λ b. waits_for b.question y ≡ true) (others ++ ask_list next)

    -- each question waiting for the ask gets a reply
    given_up : {actions : List Action} (given : Waiting → Action) → AreServedOn Accepted actions s.asks (others ++ [])
        (still_waiting (map (λ x. cond (waits_for a.question x) (gets (given x)) (waits x)) s.waiting))
    given_up {actions} given = closed_on s.asks s.waiting served by_arrival a on Accepted actions
        (λ x. cond (waits_for a.question x) (gets (given x)) (waits x)) None
        (λ x f. cond-false (waits_for a.question x) _ _ f)
        (all_of (λ x. waits_for a.question x ≡ true
        → FateHas (Asked None) (cond (waits_for a.question x) (gets (given x)) (waits x)))
        (λ x t. subst (FateHas (Asked None)) (sym
        (cond-true (waits_for a.question x) (gets (given x)) (waits x) t)) tt) s.waiting)
        tt tt

    -- a question waits for the ask
    wanted : AnyByRecursion (λ x. waits_for a.question x ≡ true) s.waiting
    wanted = (ask_on-is (λ b. AnyByRecursion
        (λ x. waits_for b.question x ≡ true) s.waiting) a.path s.asks a on served.wanting).1

    -- the ask's question is asked again
    asked_again : {more : List Action} (d : Ask) → d.question ≡ a.question → d.used ≡ a.used + 1
        → AreServedOn Accepted (closes a.path ∷ more) s.asks (others ++ d ∷ [])
        (still_waiting (map (λ x. waits x) s.waiting))
    asked_again {more} d same_question_is used_is = closed_on s.asks s.waiting served by_arrival a on Accepted
        (closes a.path ∷ more) (λ x. waits x) (Some d)
        (λ x f. refl)
        (all_of (λ x. waits_for a.question x ≡ true → FateHas (Asked (Some d)) (waits x))
        (λ x t. any_last (λ b. waits_for b.question x ≡ true) others (d ∷ [])
        (inl (ap (same_question x.wanted) same_question_is ∙ t))) s.waiting)
        (subst (AnyByRecursion (λ y. waits_for d.question y ≡ true)) (sym (all_wait_on s.waiting))
        (any_weaker (λ x. waits_for a.question x ≡ true) (λ x. waits_for d.question x ≡ true)
        (λ x t. ap (same_question x.wanted) same_question_is ∙ t) s.waiting wanted))
        (inr (inl (record {
          closed = a;
          on = on;
          closes = closes_first a.path more;
          question = sym same_question_is;
          used = used_is;
        })))

    attempt_row : (v : Next) (r : Option Ask) → next_ask (start c n words s) a v ≡ r → K (row_of_attempt n a s r)
    attempt_row v None is = given_up (gives_up NoPort)
    attempt_row v (Some d) is = asked_again d (next_asks c n words a s v d is) (next_used c n words a s v d is)

    next_row : (v : Next) → K (row_of_next (start c n words s) a v)
    next_row (AskUdp server) = attempt_row (AskUdp server) (next_ask (start c n words s) a (AskUdp server)) refl
    next_row (AskTcp server) = attempt_row (AskTcp server) (next_ask (start c n words s) a (AskTcp server)) refl
    next_row GiveUp = given_up (λ x. with_stale_ttl n x (found_stale c n s.cache.entries x))

    pub failure_row : (f : Failure) → K (row_of_failure (start c n words s) a f)
    failure_row f = next_row (after_failure (plan_of c a) f)

  -- ---- a client's message

  opening_row : (used : List Slot) (y : Waiting) (r : Option Ask) → first_ask_for (start c n words (with_promoted used s)) y.wanted ≡ r
      → K (row_of_opening n y (with_promoted used s) r)
  opening_row used y None is = same
  opening_row used y (Some a) is =
      let first : a.question ≡ y.wanted = first_asks c n words y.wanted (with_promoted used s) a is in
      taken_on Accepted (map asks (ask_list (Some a))) s.asks s.waiting y (Some a) served (asks_close_none (Some a))
      (any_last (λ b. waits_for b.question y ≡ true) s.asks (a ∷ [])
      (inl (ap (same_question y.wanted) first ∙ same_as_itself y.wanted))) first

  inquiry_row : (used : List Slot) (y : Waiting) (r : Option Ask) → of_question y.wanted s.asks ≡ r
      → K (row_of_inquiry (start c n words (with_promoted used s)) y r)
  inquiry_row used y None is = cond_both (nat_le c.limits.inquiries (length s.asks)) _ _ K (λ t. same)
      (λ f. opening_row used y (first_ask_for (start c n words (with_promoted used s)) y.wanted) refl)
  inquiry_row used y (Some a) is =
      taken_on Accepted [] s.asks s.waiting y None served (asks_close_none None) (any_first (λ b. waits_for b.question y ≡ true) s.asks []
      (of_question_any y s.asks a is)) tt

  fate_row : (used : List Slot) (v : Fate) → K (row_of_fate (start c n words (with_promoted used s)) v)
  fate_row used (gets reply) = same
  fate_row used (waits y) = cond_both (nat_le c.limits.questions (length s.waiting)) _ _ K (λ t. same)
      (λ f. inquiry_row used y (of_question y.wanted s.asks) refl)

  pub request_row : (client : Client) (octets : List ℕ) → K (row_of_request (start c n words s) client octets)
  request_row client octets = cond_both (is_taken octets) _ _ K
      (λ t. cond_both ((header_in octets).opcode == 0) _ _ K (λ z. asked (one_question octets)) (λ z. same))
      (λ f. same)
    where
      looked : (x : Waiting) (l : LookUp) → K (row_of_look_up (start c n words s) x l)
      looked x l = fate_row l.used (fate_of c n x l)

      routed : (x : Waiting) (r : Option ℕ) → K (row_of_route (start c n words s) x r)
      routed x None = same
      routed x (Some route) = looked x (look_up c.routes n s.cache.entries most_aliases [] x.wanted)

      asked : (r : Option Question) → K (row_of_question (start c n words s) client (header_in octets) r)
      asked None = same
      asked (Some q) = cond_both (is_unserved q) _ _ K (λ t. same)
          (λ f. routed (taken_now n client (header_in octets) q) (serving_route_of c q.name))

  -- ---- the passing of time

  -- the oldest question gets its reply; its ask is closed if no other question waits for the ask
  module _ (y : Waiting) (behind : List Waiting) (first : s.waiting ≡ y ∷ behind) where
    were : AreServed s.asks (y ∷ behind)
    were = subst (AreServed s.asks) first served

    -- another question waits for the ask
    joined : (actions : List Action) → AnyByRecursion (λ z. waits_for y.wanted z ≡ true) behind
        → AreServedOn Accepted actions s.asks s.asks behind
    joined actions any = record {
      served = record {
        asked = were.asked.1;
        wanting = All-weaker (λ a. AnyByRecursion (λ z. waits_for a.question z ≡ true) (y ∷ behind))
            (λ a. AnyByRecursion (λ z. waits_for a.question z ≡ true) behind) one s.asks were.wanting;
      };
      spelled = all_spelled Accepted actions s.asks behind;
    }
      where
        one : (a : Ask) → AnyByRecursion (λ z. waits_for a.question z ≡ true) (y ∷ behind)
            → AnyByRecursion (λ z. waits_for a.question z ≡ true) behind
        one a (inl here) = any_weaker (λ z. waits_for y.wanted z ≡ true) (λ z. waits_for a.question z ≡ true)
            (λ z t. same_through z.wanted y.wanted a.question t here) behind any
        one a (inr later) = later

    -- no other question waits for the ask
    alone : (actions : List Action) (a : Ask) → of_question y.wanted s.asks ≡ Some a
        → AllByRecursion (λ z. waits_for y.wanted z ≡ false) behind
        → AreServedOn Accepted actions s.asks (without_path a.path s.asks ++ []) behind
    alone actions a is none = subst (AreServedOn Accepted actions s.asks (without_path a.path s.asks ++ [])) waiting_is
        (given_up a (own_on y.wanted s.asks a by_arrival is) (gives_up Deadline))
      where
        fate : Waiting → Fate
        fate x = cond (waits_for a.question x) (gets (gives_up Deadline x)) (waits x)

        asks_it : same_question a.question y.wanted ≡ true
        asks_it = (of_question-is (λ b. Unit {0}) y.wanted s.asks a is (all_of (λ b. Unit {0}) (λ b. tt) s.asks)).1

        rest_is : (zs : List Waiting) → AllByRecursion (λ z. waits_for y.wanted z ≡ false) zs
            → still_waiting (map fate zs) ≡ zs
        rest_is [] all = refl
        rest_is (z ∷ zs) all =
            ap (λ (v : Fate). Rattle.std.specs.List.cons_option (waiting_in v) (still_waiting (map fate zs)))
            (cond-false (waits_for a.question z) _ _ (not_it (waits_for a.question z) refl))
            ∙ ap (λ xs. z ∷ xs) (rest_is zs all.1)
          where
            not_it : (v : Bool) → waits_for a.question z ≡ v → waits_for a.question z ≡ false
            not_it false f = f
            not_it true t = absurd (true≢false (sym (same_through z.wanted a.question y.wanted t asks_it) ∙ all.0))

        waiting_is : still_waiting (map fate s.waiting) ≡ behind
        waiting_is =
            ap (λ xs. still_waiting (map fate xs)) first
            ∙ ap (λ (v : Fate). Rattle.std.specs.List.cons_option (waiting_in v) (still_waiting (map fate behind)))
            (cond-true (waits_for a.question y) _ _ (same_turned a.question y.wanted asks_it))
            ∙ rest_is behind none

    -- the oldest question's ask is listed
    has_ask : of_question y.wanted s.asks ≡ None → ⊥
    has_ask none = nothing_any s.asks (any_with (λ b. same_question b.question y.wanted ≡ false)
        (λ b. waits_for b.question y ≡ true) (λ b. ⊥)
        (λ b f t. true≢false (sym (same_turned y.wanted b.question t) ∙ f)) s.asks
        (none_same y.wanted s.asks none) were.asked.0)

    expired : (actions : List Action) (v : Bool) → list_any (waits_for y.wanted) behind ≡ v → (r : Option Ask)
        → of_question y.wanted s.asks ≡ r
        → AreServedOn Accepted actions s.asks (without_ask (cond v None r) s.asks ++ []) behind
    expired actions true some r is = subst (λ (as' : List Ask). AreServedOn Accepted actions s.asks as' behind)
        (sym (append-nil s.asks)) (joined actions (any_passes (waits_for y.wanted) behind some))
    expired actions false none (Some a) is = alone actions a is (none_passes (waits_for y.wanted) behind none)
    expired actions false none None is = absurd (has_ask is)

    abbrev expires : Done
    expires = expiry_step n y behind (left_alone y.wanted behind s.asks) s

    expiry_row : K expires
    expiry_row = subst (AreServedOn Accepted expires.actions s.asks (without_ask
        (left_alone y.wanted behind s.asks) s.asks ++ []))
        (sym (all_wait_on behind)) (expired expires.actions (list_any (waits_for y.wanted) behind) refl
        (of_question y.wanted s.asks) refl)

    pub question_row : K (row_of_item (start c n words s) (question y behind))
    question_row = cond_both (nat_le (deadline_of c y) n) _ _ K (λ t. expiry_row) (λ f. same)

  attempt_item : (a : Ask) (others : List Ask) → s.asks ≡ a ∷ others → K (row_of_item (start c n words s) (attempt a))
  attempt_item a others first = cond_both (nat_le (timeout_of c a) n) _ _ K
      (λ t. failure_row a (ap (ask_on a.path) first
      ∙ cond-true (same_path a.path a.path) _ _ (same_path_reflexive a.path)) failure.TimedOut)
      (λ f. same)

  item_row : (ws : List Waiting) → s.waiting ≡ ws → (listed : List Ask) → s.asks ≡ listed
      → K (row_of_item (start c n words s) (first_item c ws listed))
  item_row [] is [] as_is = same
  item_row [] is (a ∷ others) as_is = attempt_item a others as_is
  item_row (y ∷ ys) is [] as_is = question_row y ys is
  item_row (y ∷ ys) is (a ∷ others) as_is =
      cond_both (nat_le (deadline_of c y) (timeout_of c a)) (question y ys) (attempt a)
      (λ (i : Item). K (row_of_item (start c n words s) i))
      (λ _. question_row y ys is)
      (λ _. attempt_item a others as_is)

  pub tick_row : K (row_of_tick (start c n words s))
  tick_row = item_row s.waiting refl s.asks refl

  -- ---- a failed path

  -- the ask on a path is the ask on its own path
  own_path : (path : Path) (a : Ask) → ask_on path s.asks ≡ Some a → ask_on a.path s.asks ≡ Some a
  own_path path a on = ap (λ (p : Path). ask_on p s.asks)
      (ask_on-is (λ b. Unit {0}) path s.asks a on (all_of (λ b. Unit {0}) (λ b. tt) s.asks)).0 ∙ on

  pub path_row : (path : Path) (r : Option Ask) → ask_on path s.asks ≡ r → K (row_of_failed_path (start c n words s) r)
  path_row path None on = same
  path_row path (Some a) on = failure_row a (own_path path a on) failure.Broken

  -- ---- an accepted reply

  module _ (a : Ask) (on : ask_on a.path s.asks ≡ Some a) (route_is : serving_route_of c a.question.name ≡ Some a.route)
      (m : Message) (shapes : HasShapes m) where
    abbrev w : Walk
    w = walk_of c m a.question a.route

    abbrev fate : Waiting → Fate
    fate = fate_by c n s.cache.entries a w

    abbrev next_others : List Ask
    next_others = without_path a.path s.asks

    -- a question not waiting for the ask waits on
    keeps : (x : Waiting) → waits_for a.question x ≡ false → fate x ≡ waits x
    keeps x f = cond-false (waits_for a.question x) _ _ f

    -- after a last piece nobody waits on
    ended_by : (R : Waiting → Type 0) (x : Waiting) (held : List Held) (q : Question) (ps : List Piece) → 1 ≤ length ps
        → FateHas R (fate_of c n x (unless_many (ends_at n held q ps)))
    ended_by R x held q [] some = absurd (omega (arith, some))
    ended_by R x held q (p ∷ ps) some = cond_both (nat_le (length (ends_at n held q (p ∷ ps)).held) most_aliases) _ _
        (λ (l : LookUp). FateHas R (fate_of c n x l)) (λ t. tt) (λ f. tt)

    last_row : {actions : List Action} → has_last w.end ≡ true → 1 ≤ length w.pieces
        → AreServedOn Accepted actions s.asks (next_others ++ []) (still_waiting (map fate s.waiting))
    last_row {actions} fine some = closed_on s.asks s.waiting served by_arrival a on Accepted actions fate None keeps
        (all_of (λ x. waits_for a.question x ≡ true → FateHas (Asked a on None) (fate x))
        (λ x t. subst (FateHas (Asked a on None))
        (sym (cond-true (waits_for a.question x) _ _ t
        ∙ ap (fate_of c n x) (looked_at_end c n s.cache.entries w x w.end fine)))
        (ended_by (Asked a on None) x x.held x.wanted w.pieces some)) s.waiting)
        tt tt

    -- ---- the walk leads elsewhere

    abbrev Ys : List Waiting
    Ys = still_waiting (map fate (filter (waits_for a.question) s.waiting))

    -- all questions sent on want a single question
    want_one : (name : List (List ℕ)) → w.end ≡ elsewhere name → (y : Waiting) (ys : List Waiting) → Ys ≡ y ∷ ys
        → AllByRecursion (λ z. z.wanted ≡ y.wanted) Ys
    want_one name is y ys are = All-weaker (λ z. (x : Waiting) × (waits_for a.question x ≡ true) × (fate x ≡ waits z))
        (λ z. z.wanted ≡ y.wanted)
        (λ z was.
        redirected_questions_want_one c n s.cache.entries a w name was.0 head.0 z y is was.1 head.1 was.2 head.2) Ys all
      where
        all : AllByRecursion (λ z. (x : Waiting) × (waits_for a.question x ≡ true) × (fate x ≡ waits z)) Ys
        all = each_was (waits_for a.question) fate s.waiting

        head : (x : Waiting) × (waits_for a.question x ≡ true) × (fate x ≡ waits y)
        head = (subst (AllByRecursion (λ z. (x : Waiting) × (waits_for a.question x ≡ true)
            × (fate x ≡ waits z))) are all).0

    -- if each question sent on has another ask or the next ask, the ask is closed
    sent_closed : {actions : List Action} (next : Option Ask) → AllByRecursion (Asked a on next) Ys
        → NextHas (λ b. AnyByRecursion (λ y. waits_for b.question y ≡ true) (still_waiting (map fate s.waiting))) next
        → NextHas (Spelled Accepted actions s.asks (still_waiting (map fate s.waiting))) next
        → AreServedOn Accepted actions s.asks (next_others ++ ask_list next) (still_waiting (map fate s.waiting))
    sent_closed {actions} next all wants spells = closed_on s.asks s.waiting served by_arrival a on Accepted actions fate
        next keeps (each_fate (Asked a on next) (waits_for a.question) fate s.waiting all) wants spells

    module _ (accepted : Accepted) (used : List Slot) (name : List (List ℕ)) (is : w.end ≡ elsewhere name) where
      abbrev after : State
      after = with_promoted used (with_preferred_server a s)

      module _ (y : Waiting) (ys : List Waiting) (are : Ys ≡ y ∷ ys) where
        all_want : AllByRecursion (λ z. z.wanted ≡ y.wanted) Ys
        all_want = want_one name is y ys are

        -- an ask for y's wanted question comes next
        next_named : {actions : List Action} (d : Ask) → d.question ≡ y.wanted
            → AreServedOn Accepted actions s.asks (next_others ++ d ∷ []) (still_waiting (map fate s.waiting))
        next_named {actions} d for_it = sent_closed {actions = actions} (Some d)
            (All-weaker (λ z. z.wanted ≡ y.wanted) (Asked a on (Some d))
            (λ z want. any_last (λ b. waits_for b.question z ≡ true) next_others (d ∷ [])
            (inl (ap (same_question z.wanted) (for_it ∙ sym want) ∙ same_as_itself z.wanted))) Ys all_want)
            (any_picked (λ z. waits_for d.question z ≡ true) (waits_for a.question) fate s.waiting
            (subst (AnyByRecursion (λ z. waits_for d.question z ≡ true)) (sym are)
            (inl (ap (same_question y.wanted) for_it ∙ same_as_itself y.wanted))))
            (inr (inr (record {
              anew = inr accepted;
              wanted = any_picked (λ z. z.wanted ≡ d.question) (waits_for a.question) fate s.waiting
                  (subst (AnyByRecursion (λ z. z.wanted ≡ d.question)) (sym are) (inl (sym for_it)));
            })))

        -- no port is free
        without_one : {actions : List Action} → AreServedOn Accepted actions s.asks (next_others ++ [])
            (still_waiting (map (unless_no_port fate a.question) s.waiting))
        without_one {actions} = closed_on s.asks s.waiting served by_arrival a on Accepted actions
            (unless_no_port fate a.question) None
            (λ x f. cond-false (waits_for a.question x) _ _ f)
            (all_of (λ x. waits_for a.question x ≡ true → FateHas (Asked a on None) (unless_no_port fate a.question x))
            (λ x t. subst (FateHas (Asked a on None)) (sym (cond-true (waits_for a.question x) _ _ t))
            (failed_so (fate x))) s.waiting)
            tt tt
          where
            failed_so : (v : Fate) → FateHas (Asked a on None) (without_port v)
            failed_so (gets reply) = tt
            failed_so (waits z) = tt

        name_row : (r : Option Ask) → first_ask_for (start c n words (record after { asks = next_others })) y.wanted ≡ r
            → K (row_of_next_name n a fate after r)
        name_row None none = without_one
        name_row (Some d) some = next_named d (first_asks c n words y.wanted
            (record after { asks = next_others }) d some)

        open_row : (r : Option Ask) → of_question y.wanted next_others ≡ r
            → K (row_of_redirected (start c n words after) a fate (unless_open y.wanted r))
        open_row None new = name_row (first_ask_for (start c n words (record after { asks = next_others })) y.wanted) refl
        open_row (Some b) there = sent_closed None
            (All-weaker (λ z. z.wanted ≡ y.wanted) (Asked a on None)
            (λ z want. any_first (λ d. waits_for d.question z ≡ true) next_others []
            (of_question_any z next_others b (ap (λ (q : Question). of_question q next_others) want
            ∙ there))) Ys all_want)
            tt tt

      sent_row : (zs : List Waiting) → Ys ≡ zs → K (row_of_redirected (start c n words after) a fate (to_be_asked next_others zs))
      sent_row [] none = sent_closed None (subst (AllByRecursion (Asked a on None)) (sym none) tt) tt tt
      sent_row (y ∷ ys) are = open_row y ys are (of_question y.wanted next_others) refl

    -- a walk ending at a piece has a piece
    some_pieces : (e : End) → w.end ≡ e → has_last e ≡ true → 1 ≤ length w.pieces
    some_pieces e is fine = by e (subst (EndsSo (reply_of c m a.question a.route) w.pieces w.authority) is
        (walk_leads c m a.question a.route shapes
        (serving_is c.routes (route_of c.routes a.question.name) a.route route_is).0)) fine
      where
        long : (k : End) → Closes (reply_of c m a.question a.route) most_aliases a.question.name k w.pieces
            → 1 ≤ length w.pieces
        long k closes = let whole = ap length closes.whole in let sum =
            length-append closes.aliases (closes.last ∷ []) in omega (arith, whole, sum)

        by : (k : End) → EndsSo (reply_of c m a.question a.route) w.pieces w.authority k → has_last k ≡ true
            → 1 ≤ length w.pieces
        by found h fine = long found h
        by ends_no_data h fine = long ends_no_data h
        by ends_denied h fine = long ends_denied h
        by (elsewhere name) h fine = absurd (false≢true fine)
        by lame h fine = absurd (false≢true fine)

    end_row : Accepted → (e : End) → w.end ≡ e → is_lame e ≡ false
        → K (row_of_end (start c n words (with_preferred_server a s)) a w fate e)
    end_row accepted found is fine = last_row (ap has_last is) (some_pieces found is refl)
    end_row accepted ends_no_data is fine = last_row (ap has_last is) (some_pieces ends_no_data is refl)
    end_row accepted ends_denied is fine = last_row (ap has_last is) (some_pieces ends_denied is refl)
    end_row accepted (elsewhere name) is fine = sent_row accepted (used_by c n s.cache.entries a w s.waiting) name is Ys
        refl
    end_row accepted lame is fine = absurd (true≢false fine)

    accepted_row : (rooms : List Bool) → Accepted → is_lame w.end ≡ false
        → K (row_of_acceptance (start c n words s) rooms a w)
    accepted_row rooms accepted fine = end_row accepted w.end refl fine

    pub walk_row : (rooms : List Bool) → (is_lame w.end ≡ false → Accepted)
        → K (row_of_walk (start c n words s) rooms a w)
    walk_row rooms accepts = cond_both (is_lame w.end) _ _ K (λ t. failure_row a on failure.Lame)
        (λ f. accepted_row rooms (accepts f) f)

  -- ---- a delivery

  module _ (past : List Step) (tried : AllByRecursion (Tried c past) s.asks) (path : Path) (from : Peer)
      (octets : List ℕ) (rooms : List Bool) (heard : GivesIfHeard c n s Accepted (delivery path from octets)) where
    module _ (a : Ask) (there : ask_on path s.asks ≡ Some a) (live : nat_lt n (timeout_of c a) ≡ true) where
      on : ask_on a.path s.asks ≡ Some a
      on = own_path path a there

      message_row : judge a from octets ≡ Whole → (r : Result Message Fault) → message_of octets ≡ r
          → K (row_of_message (start c n words s) rooms a r)
      message_row whole (Ok m) read = walk_row a on (ask_on-is (Tried c past) path s.asks a there tried).1.on_route m
          (spelled_message_has_shapes octets m (read_spells octets m read)) rooms
          (λ fine. heard a there m live whole read fine)
      message_row whole (Err fault) read = failure_row a on failure.Malformed

      verdict_row : (v : Verdict) → judge a from octets ≡ v → K (row_of_verdict (start c n words s) rooms a octets v)
      verdict_row Stranger is = same
      verdict_row Truncated is = failure_row a on failure.Truncated
      verdict_row (Failed rcode) is = failure_row a on failure.Rcode
      verdict_row Malformed is = failure_row a on failure.Malformed
      verdict_row Whole is = message_row is (message_of octets) refl

    pub delivery_row : (r : Option Ask) → ask_on path s.asks ≡ r
        → K (row_of_delivery (start c n words s) rooms from octets r)
    delivery_row None none = same
    delivery_row (Some a) there = cond_both (nat_lt n (timeout_of c a)) _ _ K
        (λ t. verdict_row a there t (judge a from octets) refl)
        (λ f. same)

  -- ---- each event

  pub event_row : (past : List Step) → AllByRecursion (Tried c past) s.asks → (e : Event) (d : Done)
      → GivesIfHeard c n s Accepted e → Happens (start c n words s) e d → K d
  event_row past tried (from_client client octets) d heard h = subst K (sym h) (request_row client octets)
  event_row past tried (delivery path from octets) d heard h =
      subst K (sym h.1) (delivery_row past tried path from octets h.0 heard (ask_on path s.asks) refl)
  event_row past tried (path_failed path) d heard h = subst K (sym h) (path_row path (ask_on path s.asks) refl)
  event_row past tried tick d heard h = subst K (sym h) tick_row
  event_row past tried restart d heard h = subst K (sym h)
      (record { served = record { asked = tt; wanting = tt }; spelled = tt })
