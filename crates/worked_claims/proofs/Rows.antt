-- Each row asks at most once, and gives up at most one path, a listed ask's; a question gets only
-- replies.
use Rattle.std.proofs.Common.{◌≡◌, ℕ, ◌≤◌, List, [], ◌∷◌, ◌++◌, length, Bool, true, false, cond, refl, sym, ap, ◌∙◌, subst, arith, Option, Some, None, Result, Ok, Err, ◌⊎◌, inl, inr}
use Rattle.std.specs.Prelude.{map, nat_le, nat_lt, ◌==◌, IsSome}
use Rattle.std.specs.List.{find, list_any, filter, cons_option, AllByRecursion}
use Rattle.std.proofs.lemmas.Bool.{true≢false}
use Rattle.dns_message.specs.declared.reading.header.Header.{Header}
use Rattle.dns_message.specs.Header.{header_in}
use Rattle.dns_message.specs.declared.names.fault.Fault.{Fault}
use Rattle.dns_message.specs.Values.{Question, Message}
use Rattle.dns_message.specs.Questions.{one_question, same_question, is_unserved}
use Rattle.dns_message.specs.Messages.{message_of}
use Rattle.suffix_routes.specs.declared.peer.Peer.{Peer}
use Rattle.suffix_routes.specs.Values.{Config}
use Rattle.outstanding.specs.declared.ask.Path.{Path}
use Rattle.outstanding.specs.declared.ask.Path.TheVariants.{Udp, Tcp}
use Rattle.outstanding.specs.Lists.{on_path as ask_on, of_question, same_path, without_path}
use Rattle.outstanding.specs.Values.{Ask}
use Rattle.outstanding.proofs.CallerLemmas.{same_path_reflexive}
use Rattle.reply_match.specs.declared.verdict.Verdict.{Verdict}
use Rattle.reply_match.specs.declared.verdict.Verdict.TheVariants.{Stranger, Truncated, Failed, Malformed, Whole}
use Rattle.retry_failover.specs.declared.Failure.{Failure}
use Rattle.retry_failover.specs.declared.Failure.TheVariants as failure
use Rattle.retry_failover.specs.Table.{after_failure}
use Rattle.reply_match.specs.Verdicts.{judge}
use Rattle.retry_failover.specs.declared.Next.{Next}
use Rattle.retry_failover.specs.declared.Next.TheVariants.{AskUdp, AskTcp, GiveUp}
use Rattle.trust_rank.specs.Values.{End, found, ends_no_data, ends_denied, elsewhere, lame, Walk}
use Rattle.trust_rank.specs.Walks.{most_aliases, walk_of, is_lame}
use Rattle.record_cache.specs.Values.{Held}
use Rattle.answer_builder.specs.declared.fault.Fault.{Fault as BuildFault}
use Rattle.step_values.specs.declared.event.Client.{Client}
use Rattle.step_values.specs.declared.action.Why.{Why}
use Rattle.step_values.specs.declared.action.Why.TheVariants.{NotServed, QuestionsFull, InquiriesFull, NoPort, Deadline}
use Rattle.step_values.specs.Values.{Event, from_client, delivery, path_failed, tick, restart, Action, ask_udp, ask_tcp, close_udp, close_tcp, send_reply, SentAsk}
use Rattle.step_values.specs.Requests.{is_taken}
use Rattle.suffix_routes.specs.Serving.{serving_route_of, is_local}
use Rattle.step_table.specs.State.{State, start}
use Rattle.waiting_questions.specs.Values.{Waiting, waits_for}
use Rattle.step_table.specs.Attempts.{first_ask_for, plan_of, next_ask}
use Rattle.step_table.specs.Steps.{Done, Fate, gets, waits, reply_in, replies, closes, closing, asks, asks_by, ask_list, idle_step, closing_step, gives_up, sends, fails, with_promoted, with_preferred_server, still_waiting}
use Rattle.alias_chains.specs.LookingUp.{LookUpEnd, ends, too_long, missed, LookUp, look_up}
use Rattle.step_table.specs.Row.{Happens, effective}
use Rattle.step_table.specs.Ticks.{question, attempt, nothing, deadline_of, Item, first_item, left_alone, row_of_item}
use Rattle.step_table.specs.Replies.{fate_by, without_port, unless_no_port, row_of_next_name, row_of_redirected, row_of_end, row_of_walk, row_of_message, row_of_verdict, timeout_of, row_of_delivery, looked_by, used_by, to_be_asked}
use Rattle.step_table.specs.Failures.{row_of_attempt, with_stale_ttl, found_stale, runs_out, row_of_next, row_of_failure, row_of_failed_path}
use Rattle.step_table.specs.Clients.{without_server, fate_missed, fate_at, fate_of, row_of_opening, row_of_inquiry, row_of_waiting, row_of_fate, row_of_look_up, row_of_route, row_of_service, taken_now, row_of_question, row_of_request}
use Rattle.worked_claims.specs.Laws.{asks_in, closed_in, IsListedOn, StepsAskOnceAtMost, StepsCloseOnceAtMost, StepsCloseWhatIsListed}

-- ---- both branches of a test

both : {X : Type 0} (P : X → Type 0) (v : Bool) {x y : X} → P x → P y → P (cond v x y)
both P true px py = px
both P false px py = py

-- ---- a question gets a reply

abbrev IsReply : Action → Type 0
IsReply (send_reply client octets why) = Unit {0}
IsReply (ask_udp port server octets) = ⊥
IsReply (ask_tcp conn server octets) = ⊥
IsReply (close_udp port) = ⊥
IsReply (close_tcp conn) = ⊥

abbrev Replies : Fate → Type 0
Replies (gets action) = IsReply action
Replies (waits x) = Unit {0}

sent : (why : Why) (x : Waiting) (read : Result (List ℕ) BuildFault) → IsReply (sends why x read)
sent why x (Ok text) = tt
sent why x (Err fault) = tt

missing_replies : (c : Config) (n : ℕ) (x : Waiting) (aliases : List Held) (name : List (List ℕ))
    → IsReply (without_server c n x aliases name)
missing_replies c n x aliases name = both IsReply (is_local c name) (sent _ x _) tt

missed_replies : (c : Config) (n : ℕ) (x : Waiting) (l : LookUp) (route : Option ℕ)
    → Replies (fate_missed c n x l route)
missed_replies c n x l None = missing_replies c n x l.held l.wanted.name
missed_replies c n x l (Some route) = tt

met_replies : (c : Config) (n : ℕ) (x : Waiting) (l : LookUp) (met : LookUpEnd) → Replies (fate_at c n x l met)
met_replies c n x l (ends e) = sent _ x _
met_replies c n x l too_long = tt
met_replies c n x l missed = missed_replies c n x l (serving_route_of c l.wanted.name)

fate_replies : (c : Config) (n : ℕ) (x : Waiting) (l : LookUp) → Replies (fate_of c n x l)
fate_replies c n x l = met_replies c n x l l.met

failing_replies : (why : Why) (q : Question) (x : Waiting) → Replies (fails why q x)
failing_replies why q x = both Replies (waits_for q x) tt tt

past_replies : (n : ℕ) (x : Waiting) (chain : Option (List Held)) → IsReply (with_stale_ttl n x chain)
past_replies n x None = tt
past_replies n x (Some chain) = sent _ x _

last_replies : (c : Config) (n : ℕ) (entries : List Held) (q : Question) (x : Waiting)
    → Replies (runs_out c n entries q x)
last_replies c n entries q x = both Replies (waits_for q x) (past_replies n x (found_stale c n entries x)) tt

carried_replies : (c : Config) (n : ℕ) (entries : List Held) (a : Ask) (w : Walk) (x : Waiting)
    → Replies (fate_by c n entries a w x)
carried_replies c n entries a w x =
    both Replies (waits_for a.question x) (fate_replies c n x (looked_by c n entries w x w.end)) tt

portless_replies : (v : Fate) → Replies v → Replies (without_port v)
portless_replies (gets action) h = h
portless_replies (waits y) h = tt

unsent_replies : (fate : Waiting → Fate) (q : Question) (x : Waiting) → Replies (fate x)
    → Replies (unless_no_port fate q x)
unsent_replies fate q x h = both Replies (waits_for q x) (portless_replies (fate x) h) tt

all_reply : (fate : Waiting → Fate) (xs : List Waiting) → ((x : Waiting) → Replies (fate x))
    → AllByRecursion Replies (map fate xs)
all_reply fate [] each = tt
all_reply fate (x ∷ xs) each = (each x, all_reply fate xs each)

-- ---- replies neither ask nor close

abbrev Passes : {Y : Type 0} → (List Action → Y) → Type 0
Passes f = (client : Client) (octets : List ℕ) (why : Why) (more : List Action)
    → f (send_reply client octets why ∷ more) ≡ f more

past_one : {Y : Type 0} (f : List Action → Y) → Passes f → (v : Fate) → Replies v → (rs rest : List Action)
    → f (rs ++ rest) ≡ f rest → f (cons_option (reply_in v) rs ++ rest) ≡ f rest
past_one f over (gets (send_reply client octets why)) h rs rest e = over client octets why (rs ++ rest) ∙ e
past_one f over (gets (ask_udp port server octets)) h rs rest e = absurd h
past_one f over (gets (ask_tcp conn server octets)) h rs rest e = absurd h
past_one f over (gets (close_udp port)) h rs rest e = absurd h
past_one f over (gets (close_tcp conn)) h rs rest e = absurd h
past_one f over (waits y) h rs rest e = e

past_all : {Y : Type 0} (f : List Action → Y) → Passes f → (fates : List Fate) → AllByRecursion Replies fates
    → (rest : List Action) → f (replies fates ++ rest) ≡ f rest
past_all f over [] h rest = refl
past_all f over (v ∷ fates) h rest = past_one f over v h.0 (replies fates) rest (past_all f over fates h.1 rest)

-- ---- listed asks

abbrev IsIn : Ask → List Ask → Type 0
IsIn a [] = ⊥
IsIn a (b ∷ others) = (b ≡ a) ⊎ IsIn a others

-- the result of a search is in the list
abbrev IsInIfAny : List Ask → Option Ask → Type 0
IsInIfAny listed None = Unit {0}
IsInIfAny listed (Some a) = IsIn a listed

found_is_in : (test : Ask → Bool) (listed more : List Ask) → ((a : Ask) → IsIn a more → IsIn a listed)
    → IsInIfAny listed (find test more)
found_is_in test listed [] each = tt
found_is_in test listed (a ∷ more) each =
    both (IsInIfAny listed) (test a) (each a (inl refl)) (found_is_in test listed more (λ b h. each b (inr h)))

-- an ask in the list is listed on its path
is_listed : (a : Ask) (listed : List Ask) → IsIn a listed → IsListedOn listed a.path
is_listed a [] h = absurd h
is_listed a (b ∷ others) (inl same) =
    by (same_path b.path a.path) (ap (λ (x : Ask). same_path b.path x.path) (sym same) ∙ same_path_reflexive b.path)
  where
    by : (v : Bool) → v ≡ true → IsSome (cond v (Some b) (ask_on a.path others))
    by true is = refl
    by false is = absurd (true≢false (sym is))
is_listed a (b ∷ others) (inr more) = both IsSome (same_path b.path a.path) refl (is_listed a others more)

-- ---- the actions of a step

record Keeps (listed : List Ask) (actions : List Action) : Type 0 where
  asks : length (asks_in actions) ≤ 1
  closes : length (closed_in actions) ≤ 1
  listed_ones : AllByRecursion (IsListedOn listed) (closed_in actions)

nothing_kept : (listed : List Ask) → Keeps listed []
nothing_kept listed = record { asks = omega arith; closes = omega arith; listed_ones = tt }

reply_kept : (listed : List Ask) (action : Action) → IsReply action → Keeps listed (action ∷ [])
reply_kept listed (send_reply client octets why) h =
    record { asks = omega arith; closes = omega arith; listed_ones = tt }
reply_kept listed (ask_udp port server octets) h = absurd h
reply_kept listed (ask_tcp conn server octets) h = absurd h
reply_kept listed (close_udp port) h = absurd h
reply_kept listed (close_tcp conn) h = absurd h

ask_kept : (listed : List Ask) (next : Option Ask) → Keeps listed (map asks (ask_list next))
ask_kept listed None = nothing_kept listed
ask_kept listed (Some a) = by a.path
  where
    by : (p : Path) → Keeps listed (asks_by p a ∷ [])
    by (Udp port) = record { asks = omega arith; closes = omega arith; listed_ones = tt }
    by (Tcp conn) = record { asks = omega arith; closes = omega arith; listed_ones = tt }

-- no ask gives up a path
ask_closes_none : (next : Option Ask) → closed_in (map asks (ask_list next)) ≡ []
ask_closes_none None = refl
ask_closes_none (Some a) = by a.path
  where
    by : (p : Path) → closed_in (asks_by p a ∷ []) ≡ []
    by (Udp port) = refl
    by (Tcp conn) = refl

closing_kept : (listed : List Ask) (close : Option Ask) → IsInIfAny listed close → (more : List Action)
    → length (asks_in more) ≤ 1 → closed_in more ≡ [] → Keeps listed (closing close ++ more)
closing_kept listed None is more few none = record {
  asks = few;
  closes = let closed : length (closed_in more) ≡ 0 = ap length none in omega (arith, closed);
  listed_ones = subst (AllByRecursion (IsListedOn listed)) (sym none) tt;
}
closing_kept listed (Some a) is more few none = by a.path (is_listed a listed is)
  where
    by : (p : Path) → IsListedOn listed p → Keeps listed (closes p ∷ more)
    by (Udp port) on = record {
      asks = few;
      closes = let closed : length (closed_in more) ≡ 0 = ap length none in omega (arith, closed);
      listed_ones = (on, subst (AllByRecursion (IsListedOn listed)) (sym none) tt);
    }
    by (Tcp conn) on = record {
      asks = few;
      closes = let closed : length (closed_in more) ≡ 0 = ap length none in omega (arith, closed);
      listed_ones = (on, subst (AllByRecursion (IsListedOn listed)) (sym none) tt);
    }

settled_kept : (listed : List Ask) (close : Option Ask) (fates : List Fate) (next : Option Ask) → IsInIfAny listed close
    → AllByRecursion Replies fates
    → Keeps listed (closing close ++ (replies fates ++ map asks (ask_list next)))
settled_kept listed close fates next is all =
    closing_kept listed close is (replies fates ++ map asks (ask_list next))
    (subst (λ (xs : List SentAsk). length xs ≤ 1)
    (sym (past_all asks_in (λ client octets why more. refl) fates all (map asks (ask_list next))))
    (ask_kept listed next).asks)
    (past_all closed_in (λ client octets why more. refl) fates all (map asks (ask_list next)) ∙ ask_closes_none next)

-- ---- each row

module _ (c : Config) (n : ℕ) (words : List ℕ) (listed : List Ask) where
  abbrev Kept : Done → Type 0
  Kept d = Keeps listed d.actions

  idle_kept : (s : State) → Kept (idle_step n s)
  idle_kept s = nothing_kept listed

  closed_kept : (a : Ask) → IsIn a listed → (fate : Waiting → Fate) → ((x : Waiting) → Replies (fate x))
      → (next : Option Ask) (s : State) → Kept (closing_step n a fate next s)
  closed_kept a is fate each next s =
      settled_kept listed (Some a) (map fate s.waiting) next is (all_reply fate s.waiting each)

  -- a client's message

  opening_kept : (x : Waiting) (s : State) (next : Option Ask) → Kept (row_of_opening n x s next)
  opening_kept x s None = reply_kept listed (gives_up NoPort x) tt
  opening_kept x s (Some a) = ask_kept listed (Some a)

  inquiry_kept : (x : Waiting) (s : State) (a : Option Ask) → Kept (row_of_inquiry (start c n words s) x a)
  inquiry_kept x s None =
      both Kept (nat_le c.limits.inquiries (length s.asks)) (reply_kept listed (gives_up InquiriesFull x) tt)
      (opening_kept x s (first_ask_for (start c n words s) x.wanted))
  inquiry_kept x s (Some a) = ask_kept listed None

  waiting_kept : (x : Waiting) (s : State) → Kept (row_of_waiting (start c n words s) x)
  waiting_kept x s =
      both Kept (nat_le c.limits.questions (length s.waiting)) (reply_kept listed (gives_up QuestionsFull x) tt)
      (inquiry_kept x s (of_question x.wanted s.asks))

  fate_kept : (s : State) (v : Fate) → Replies v → Kept (row_of_fate (start c n words s) v)
  fate_kept s (gets action) h = reply_kept listed action h
  fate_kept s (waits x) h = waiting_kept x s

  looked_kept : (x : Waiting) (s : State) (l : LookUp) → Kept (row_of_look_up (start c n words s) x l)
  looked_kept x s l = fate_kept (with_promoted l.used s) (fate_of c n x l) (fate_replies c n x l)

  route_kept : (x : Waiting) (s : State) (route : Option ℕ) → Kept (row_of_route (start c n words s) x route)
  route_kept x s None = reply_kept listed _ (missing_replies c n x [] x.wanted.name)
  route_kept x s (Some route) = looked_kept x s (look_up c.routes n s.cache.entries most_aliases [] x.wanted)

  service_kept : (x : Waiting) (s : State) → Kept (row_of_service (start c n words s) x)
  service_kept x s =
      both Kept (is_unserved x.wanted) (reply_kept listed (gives_up NotServed x) tt)
      (route_kept x s (serving_route_of c x.wanted.name))

  question_kept : (client : Client) (h : Header) (s : State) (q : Option Question)
      → Kept (row_of_question (start c n words s) client h q)
  question_kept client h s None = reply_kept listed _ tt
  question_kept client h s (Some q) = service_kept (taken_now n client h q) s

  request_kept : (client : Client) (octets : List ℕ) (s : State) → Kept (row_of_request (start c n words s) client octets)
  request_kept client octets s =
      both Kept (is_taken octets)
      (both Kept ((header_in octets).opcode == 0) (question_kept client (header_in octets) s (one_question octets))
      (reply_kept listed _ tt))
      (idle_kept s)

  -- a failed attempt

  attempt_kept : (a : Ask) → IsIn a listed → (s : State) (next : Option Ask) → Kept (row_of_attempt n a s next)
  attempt_kept a is s None = closed_kept a is (fails NoPort a.question) (failing_replies NoPort a.question) None s
  attempt_kept a is s (Some next) = closed_kept a is (λ x. waits x) (λ x. tt) (Some next) s

  next_kept : (a : Ask) → IsIn a listed → (s : State) (next : Next) → Kept (row_of_next (start c n words s) a next)
  next_kept a is s (AskUdp server) = attempt_kept a is s (next_ask (start c n words s) a (AskUdp server))
  next_kept a is s (AskTcp server) = attempt_kept a is s (next_ask (start c n words s) a (AskTcp server))
  next_kept a is s GiveUp =
      closed_kept a is (runs_out c n s.cache.entries a.question) (last_replies c n s.cache.entries a.question) None s

  failure_kept : (a : Ask) → IsIn a listed → (f : Failure) (s : State) → Kept (row_of_failure (start c n words s) a f)
  failure_kept a is f s = next_kept a is s (after_failure (plan_of c a) f)

  -- an accepted reply

  name_kept : (a : Ask) → IsIn a listed → (fate : Waiting → Fate) → ((x : Waiting) → Replies (fate x))
      → (s : State) (next : Option Ask) → Kept (row_of_next_name n a fate s next)
  name_kept a is fate each s None =
      closed_kept a is (unless_no_port fate a.question) (λ x. unsent_replies fate a.question x (each x)) None s
  name_kept a is fate each s (Some next) = closed_kept a is fate each (Some next) s

  redirected_kept : (a : Ask) → IsIn a listed → (fate : Waiting → Fate) → ((x : Waiting) → Replies (fate x))
      → (s : State) (q : Option Question) → Kept (row_of_redirected (start c n words s) a fate q)
  redirected_kept a is fate each s None = closed_kept a is fate each None s
  redirected_kept a is fate each s (Some q) =
      name_kept a is fate each s (first_ask_for (start c n words (record s { asks = without_path a.path s.asks })) q)

  end_kept : (a : Ask) → IsIn a listed → (w : Walk) (fate : Waiting → Fate) → ((x : Waiting) → Replies (fate x))
      → (s : State) (end : End) → Kept (row_of_end (start c n words s) a w fate end)
  end_kept a is w fate each s (elsewhere name) =
      redirected_kept a is fate each (with_promoted (used_by c n s.cache.entries a w s.waiting) s)
      (to_be_asked (without_path a.path s.asks) (still_waiting (map fate (filter (waits_for a.question) s.waiting))))
  end_kept a is w fate each s found = closed_kept a is fate each None s
  end_kept a is w fate each s ends_no_data = closed_kept a is fate each None s
  end_kept a is w fate each s ends_denied = closed_kept a is fate each None s
  end_kept a is w fate each s lame = closed_kept a is fate each None s

  walk_kept : (rooms : List Bool) (a : Ask) → IsIn a listed → (s : State) (w : Walk)
      → Kept (row_of_walk (start c n words s) rooms a w)
  walk_kept rooms a is s w =
      both Kept (is_lame w.end) (failure_kept a is failure.Lame s)
      (end_kept a is w (fate_by c n s.cache.entries a w) (carried_replies c n s.cache.entries a w)
      (with_preferred_server a s) w.end)

  message_kept : (rooms : List Bool) (a : Ask) → IsIn a listed → (s : State) (m : Result Message Fault)
      → Kept (row_of_message (start c n words s) rooms a m)
  message_kept rooms a is s (Ok m) = walk_kept rooms a is s (walk_of c m a.question a.route)
  message_kept rooms a is s (Err fault) = failure_kept a is failure.Malformed s

  verdict_kept : (rooms : List Bool) (a : Ask) → IsIn a listed → (octets : List ℕ) (s : State) (v : Verdict)
      → Kept (row_of_verdict (start c n words s) rooms a octets v)
  verdict_kept rooms a is octets s Stranger = idle_kept s
  verdict_kept rooms a is octets s Truncated = failure_kept a is failure.Truncated s
  verdict_kept rooms a is octets s (Failed rcode) = failure_kept a is failure.Rcode s
  verdict_kept rooms a is octets s Malformed = failure_kept a is failure.Malformed s
  verdict_kept rooms a is octets s Whole = message_kept rooms a is s (message_of octets)

  delivery_kept : (rooms : List Bool) (from : Peer) (octets : List ℕ) (s : State) (a : Option Ask) → IsInIfAny listed a
      → Kept (row_of_delivery (start c n words s) rooms from octets a)
  delivery_kept rooms from octets s None is = idle_kept s
  delivery_kept rooms from octets s (Some a) is =
      both Kept (nat_lt n (timeout_of c a)) (verdict_kept rooms a is octets s (judge a from octets)) (idle_kept s)

  path_kept : (s : State) (a : Option Ask) → IsInIfAny listed a → Kept (row_of_failed_path (start c n words s) a)
  path_kept s None is = idle_kept s
  path_kept s (Some a) is = failure_kept a is failure.Broken s

  -- the passing of time

  abbrev IsOf : Item → Type 0
  IsOf (question x others) = Unit {0}
  IsOf (attempt a) = IsIn a listed
  IsOf nothing = Unit {0}

  first_is_of : (xs : List Waiting) (as' : List Ask) → ((a : Ask) → IsIn a as' → IsIn a listed)
      → IsOf (first_item c xs as')
  first_is_of [] [] each = tt
  first_is_of [] (a ∷ others) each = each a (inl refl)
  first_is_of (x ∷ xs) [] each = tt
  first_is_of (x ∷ xs) (a ∷ others) each = both IsOf (nat_le (deadline_of c x) (timeout_of c a)) tt (each a (inl refl))

  item_kept : (s : State) → ((a : Ask) → IsIn a s.asks → IsIn a listed) → (item : Item) → IsOf item
      → Kept (row_of_item (start c n words s) item)
  item_kept s each nothing is = idle_kept s
  item_kept s each (question x others) is =
      both Kept (nat_le (deadline_of c x) n)
      (settled_kept listed (left_alone x.wanted others s.asks)
      (gets (gives_up Deadline x) ∷ map (λ y. waits y) others) None
      (both (IsInIfAny listed) (list_any (waits_for x.wanted) others) tt
      (found_is_in (λ a. same_question a.question x.wanted) listed s.asks each))
      (tt, all_reply (λ y. waits y) others (λ y. tt)))
      (idle_kept s)
  item_kept s each (attempt a) is =
      both Kept (nat_le (timeout_of c a) n) (failure_kept a is failure.TimedOut s) (idle_kept s)

-- ---- all of them

happens_kept : (c : Config) (n : ℕ) (words : List ℕ) (s : State) (e : Event) (d : Done) → Happens (start c n words s) e d
    → Keeps s.asks d.actions
happens_kept c n words s (from_client client octets) d h =
    subst (λ (x : Done). Keeps s.asks x.actions) (sym h) (request_kept c n words s.asks client octets s)
happens_kept c n words s (delivery path from octets) d h =
    subst (λ (x : Done). Keeps s.asks x.actions) (sym h.1)
    (delivery_kept c n words s.asks h.0 from octets s (ask_on path s.asks)
    (found_is_in (λ a. same_path a.path path) s.asks s.asks (λ a is. is)))
happens_kept c n words s (path_failed path) d h =
    subst (λ (x : Done). Keeps s.asks x.actions) (sym h)
    (path_kept c n words s.asks s (ask_on path s.asks)
    (found_is_in (λ a. same_path a.path path) s.asks s.asks (λ a is. is)))
happens_kept c n words s tick d h =
    subst (λ (x : Done). Keeps s.asks x.actions) (sym h)
    (item_kept c n words s.asks s (λ a is. is) (first_item c s.waiting s.asks)
    (first_is_of c n words s.asks s.waiting s.asks (λ a is. is)))
happens_kept c n words s restart d h = subst (λ (x : Done). Keeps s.asks x.actions) (sym h) (nothing_kept s.asks)

pub ask_once : StepsAskOnceAtMost
ask_once c s h o s' row = (happens_kept c (effective h.now s) h.words s h.event _ row.happens).asks

pub close_once : StepsCloseOnceAtMost
close_once c s h o s' row = (happens_kept c (effective h.now s) h.words s h.event _ row.happens).closes

pub close_listed : StepsCloseWhatIsListed
close_listed c s h o s' row = (happens_kept c (effective h.now s) h.words s h.event _ row.happens).listed_ones
