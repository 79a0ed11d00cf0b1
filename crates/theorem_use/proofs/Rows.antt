-- The entries after a row of the table.
use Rattle.std.proofs.Common.{◌≡◌, ◌∙◌, ℕ, List, [], length, map, filter, Bool, true, false, refl, ap, inl, inr, ◌⊎◌, Option, Some, None}
use Rattle.std.specs.Prelude.{◌==◌, nat_le, nat_lt, Result, Ok, Err}
use Rattle.std.proofs.lemmas.Bool.{cond_both, cond-true, cond-false}
use Rattle.dns_message.specs.Header.{header_in}
use Rattle.dns_message.specs.declared.names.fault.Fault.{Fault}
use Rattle.dns_message.specs.Values.{Question, Message}
use Rattle.dns_message.specs.Messages.{message_of}
use Rattle.dns_message.specs.Questions.{one_question, is_unserved}
use Rattle.suffix_routes.specs.declared.peer.Peer.{Peer}
use Rattle.suffix_routes.specs.Values.{Config}
use Rattle.outstanding.specs.declared.ask.Path.{Path}
use Rattle.outstanding.specs.Lists.{on_path as ask_on, of_question, without_path}
use Rattle.outstanding.specs.Values.{Ask}
use Rattle.reply_match.specs.declared.verdict.Verdict.{Verdict}
use Rattle.reply_match.specs.declared.verdict.Verdict.TheVariants.{Stranger, Truncated, Failed, Malformed, Whole}
use Rattle.reply_match.specs.Verdicts.{judge}
use Rattle.retry_failover.specs.declared.Failure.{Failure}
use Rattle.retry_failover.specs.declared.Failure.TheVariants as failure
use Rattle.retry_failover.specs.declared.Next.{Next}
use Rattle.retry_failover.specs.declared.Next.TheVariants.{AskUdp, AskTcp, GiveUp}
use Rattle.retry_failover.specs.Table.{after_failure}
use Rattle.trust_rank.specs.declared.slot.Slot.{Slot}
use Rattle.trust_rank.specs.Values.{End, found, ends_no_data, ends_denied, elsewhere, lame, Walk}
use Rattle.trust_rank.specs.Walks.{most_aliases, walk_of, is_lame}
use Rattle.record_cache.specs.Values.{Cache}
use Rattle.step_values.specs.declared.event.Client.{Client}
use Rattle.step_values.specs.Values.{Action}
use Rattle.suffix_routes.specs.Serving.{serving_route_of}
use Rattle.step_values.specs.Requests.{is_taken}
use Rattle.step_table.specs.State.{State, start}
use Rattle.step_table.specs.WaitingQuestions.Values.{Waiting, waits_for}
use Rattle.step_table.specs.Attempts.{first_ask_for, plan_of, next_ask}
use Rattle.alias_chains.specs.LookingUp.{LookUp, look_up, promoted_all}
use Rattle.step_table.specs.Steps.{Done, Fate, gets, waits, at_moment, idle_step, with_preferred_server, with_promoted, settling_step, still_waiting}
use Rattle.step_table.specs.Ticks.{question, attempt, nothing, Item, first_item, row_of_item, row_of_tick, deadline_of}
use Rattle.step_table.specs.Replies.{used_by, to_be_asked, timeout_of, row_of_next_name, row_of_redirected, row_of_end, row_of_acceptance, row_of_message, row_of_verdict, row_of_delivery}
use Rattle.step_table.specs.Failures.{row_of_attempt, row_of_next, row_of_failure, row_of_failed_path}
use Rattle.step_table.specs.Clients.{fate_of, taken_now, row_of_opening, row_of_inquiry, row_of_waiting, row_of_fate, row_of_look_up, row_of_route, row_of_question, row_of_request}

-- the entries after these promotions
abbrev pub promoted_cache : List Slot → Cache → Cache
promoted_cache used cache = record { capacity = cache.capacity; entries = promoted_all used cache.entries }

-- no new piece is kept: entries of fitting slots are promoted, and the moment is the step's
pub record IsQuiet (Fits : List Slot → Type 0) (n : ℕ) (cache : Cache) (d : Done) : Type 0 where
  pub used : List Slot
  pub fits : Fits used
  pub cache_is : d.state.cache ≡ promoted_cache used cache
  pub moment_is : d.state.moment ≡ n

-- the entries promoted before
abbrev IsUsed : (List Slot → Type 0) → Cache → State → Type 0
IsUsed Fits cache s = (used : List Slot) × Fits used × (s.cache ≡ promoted_cache used cache)

module _ (Fits : List Slot → Type 0) (n : ℕ) (cache : Cache) (s : State) (was : IsUsed Fits cache s) where
  idle_is : IsQuiet Fits n cache (idle_step n s)
  idle_is = record { used = was.0; fits = was.1; cache_is = was.2; moment_is = refl }

  settled : (close : Option Ask) (fates : List Fate) (next : Option Ask) → IsQuiet Fits n cache (settling_step n close fates next s)
  settled close fates next = record { used = was.0; fits = was.1; cache_is = was.2; moment_is = refl }

  -- ---- a failed attempt

  attempt_is : (a : Ask) (r : Option Ask) → IsQuiet Fits n cache (row_of_attempt n a s r)
  attempt_is a None = record { used = was.0; fits = was.1; cache_is = was.2; moment_is = refl }
  attempt_is a (Some next) = record { used = was.0; fits = was.1; cache_is = was.2; moment_is = refl }

  next_is : (c : Config) (words : List ℕ) (a : Ask) (v : Next) → IsQuiet Fits n cache (row_of_next (start c n words s) a v)
  next_is c words a (AskUdp server) = attempt_is a (next_ask (start c n words s) a (AskUdp server))
  next_is c words a (AskTcp server) = attempt_is a (next_ask (start c n words s) a (AskTcp server))
  next_is c words a GiveUp = record { used = was.0; fits = was.1; cache_is = was.2; moment_is = refl }

  pub failure_is : (c : Config) (words : List ℕ) (a : Ask) (f : Failure) → IsQuiet Fits n cache (row_of_failure (start c n words s) a f)
  failure_is c words a f = next_is c words a (after_failure (plan_of c a) f)

  -- ---- a waiting question

  opening_is : (y : Waiting) (r : Option Ask) → IsQuiet Fits n cache (row_of_opening n y s r)
  opening_is y None = record { used = was.0; fits = was.1; cache_is = was.2; moment_is = refl }
  opening_is y (Some a) = record { used = was.0; fits = was.1; cache_is = was.2; moment_is = refl }

  inquiry_is : (c : Config) (words : List ℕ) (y : Waiting) (r : Option Ask) → IsQuiet Fits n cache (row_of_inquiry (start c n words s) y r)
  inquiry_is c words y None = cond_both (nat_le c.limits.inquiries (length s.asks)) _ _ (IsQuiet Fits n cache)
      (λ t. record { used = was.0; fits = was.1; cache_is = was.2; moment_is = refl })
      (λ f. opening_is y (first_ask_for (start c n words s) y.wanted))
  inquiry_is c words y (Some a) = record { used = was.0; fits = was.1; cache_is = was.2; moment_is = refl }

  waiting_is : (c : Config) (words : List ℕ) (y : Waiting) → IsQuiet Fits n cache (row_of_waiting (start c n words s) y)
  waiting_is c words y = cond_both (nat_le c.limits.questions (length s.waiting)) _ _ (IsQuiet Fits n cache)
      (λ t. record { used = was.0; fits = was.1; cache_is = was.2; moment_is = refl })
      (λ f. inquiry_is c words y (of_question y.wanted s.asks))

  fate_is : (c : Config) (words : List ℕ) (v : Fate) → IsQuiet Fits n cache (row_of_fate (start c n words s) v)
  fate_is c words (gets reply) = record { used = was.0; fits = was.1; cache_is = was.2; moment_is = refl }
  fate_is c words (waits y) = waiting_is c words y

  -- ---- the end of a walk

  next_name_is : (a : Ask) (fate : Waiting → Fate) (r : Option Ask) → IsQuiet Fits n cache (Rattle.step_table.specs.Replies.row_of_next_name n a fate s r)
  next_name_is a fate None = record { used = was.0; fits = was.1; cache_is = was.2; moment_is = refl }
  next_name_is a fate (Some next) = record { used = was.0; fits = was.1; cache_is = was.2; moment_is = refl }

  sent_is : (c : Config) (words : List ℕ) (a : Ask) (fate : Waiting → Fate) (r : Option Question) → IsQuiet Fits n cache (row_of_redirected (start c n words s) a fate r)
  sent_is c words a fate None = record { used = was.0; fits = was.1; cache_is = was.2; moment_is = refl }
  sent_is c words a fate (Some q) = next_name_is a fate (first_ask_for (start c n words (record s { asks = without_path a.path s.asks })) q)

-- nothing is used
abbrev pub UsesNone : List Slot → Type 0
UsesNone used = used ≡ []

module _ (c : Config) (n : ℕ) (words : List ℕ) (s : State) where
  -- nothing was promoted before
  own : IsUsed UsesNone s.cache s
  own = ([], refl, refl)

  -- ---- a client's message

  -- the message's question was looked up, using these slots
  pub record IsLookedUp (octets : List ℕ) (used : List Slot) : Type 0 where
    pub taken : is_taken octets ≡ true
    pub opcode : ((header_in octets).opcode == 0) ≡ true
    pub question : Question
    pub reads : one_question octets ≡ Some question
    pub served : is_unserved question ≡ false
    pub route : ℕ
    pub on_route : serving_route_of c question.name ≡ Some route
    pub used_is : used ≡ (look_up c.routes n s.cache.entries most_aliases [] question).used

  -- the slots used for a message
  abbrev pub UsesFor : List ℕ → List Slot → Type 0
  UsesFor octets used = UsesNone used ⊎ IsLookedUp octets used

  pub request_is : (client : Client) (octets : List ℕ) → IsQuiet (UsesFor octets) n s.cache (row_of_request (start c n words s) client octets)
  request_is client octets = cond_both (is_taken octets) _ _ Quiet
      (λ t. cond_both ((header_in octets).opcode == 0) _ _ Quiet (λ z. asked t z (one_question octets) refl) (λ z. nothing))
      (λ f. record { used = []; fits = inl refl; cache_is = refl; moment_is = refl })
    where
      Quiet : Done → Type 0
      Quiet d = IsQuiet (UsesFor octets) n s.cache d

      nothing : {actions : List Action} → Quiet (record { actions = actions; unkept = 0; state = at_moment n s })
      nothing = record { used = []; fits = inl refl; cache_is = refl; moment_is = refl }

      looked : (x : Waiting) (l : LookUp) → UsesFor octets l.used → Quiet (row_of_look_up (start c n words s) x l)
      looked x l fits = fate_is (UsesFor octets) n s.cache (with_promoted l.used s) (l.used, fits, refl) c words (fate_of c n x l)

      routed : is_taken octets ≡ true → ((header_in octets).opcode == 0) ≡ true → (q : Question) → one_question octets ≡ Some q → is_unserved q ≡ false → (r : Option ℕ) → serving_route_of c q.name ≡ r
          → Quiet (row_of_route (start c n words s) (taken_now n client (header_in octets) q) r)
      routed t z q reads served None none = nothing
      routed t z q reads served (Some route) on = looked (taken_now n client (header_in octets) q) (look_up c.routes n s.cache.entries most_aliases [] q)
          (inr (record { taken = t; opcode = z; question = q; reads = reads; served = served; route = route; on_route = on; used_is = refl }))

      asked : is_taken octets ≡ true → ((header_in octets).opcode == 0) ≡ true → (r : Option Question) → one_question octets ≡ r → Quiet (row_of_question (start c n words s) client (header_in octets) r)
      asked t z None none = nothing
      asked t z (Some q) reads = cond_both (is_unserved q) _ _ Quiet (λ u. nothing) (λ served. routed t z q reads served (serving_route_of c q.name) refl)

  -- ---- events without a reply

  pub path_is : (r : Option Ask) → IsQuiet UsesNone n s.cache (row_of_failed_path (start c n words s) r)
  path_is None = idle_is UsesNone n s.cache s own
  path_is (Some a) = failure_is UsesNone n s.cache s own c words a failure.Broken

  pub tick_is : IsQuiet UsesNone n s.cache (row_of_tick (start c n words s))
  tick_is = item (first_item c s.waiting s.asks)
    where
      item : (i : Item) → IsQuiet UsesNone n s.cache (row_of_item (start c n words s) i)
      item nothing = idle_is UsesNone n s.cache s own
      item (question x others) = cond_both (nat_le (deadline_of c x) n) _ _ (IsQuiet UsesNone n s.cache)
          (λ t. record { used = []; fits = refl; cache_is = refl; moment_is = refl })
          (λ f. idle_is UsesNone n s.cache s own)
      item (attempt a) = cond_both (nat_le (timeout_of c a) n) _ _ (IsQuiet UsesNone n s.cache)
          (λ t. failure_is UsesNone n s.cache s own c words a failure.TimedOut)
          (λ f. idle_is UsesNone n s.cache s own)

  -- ---- a delivery

  module _ (rooms : List Bool) (path : Path) (from : Peer) (octets : List ℕ) where
    -- a delivery not accepted
    pub unheard_is : ((a : Ask) → ask_on path s.asks ≡ Some a → (m : Message) → nat_lt n (timeout_of c a) ≡ true → judge a from octets ≡ Whole → message_of octets ≡ Ok m → is_lame (walk_of c m a.question a.route).end ≡ false → ⊥)
        → IsQuiet UsesNone n s.cache (row_of_delivery (start c n words s) rooms from octets (ask_on path s.asks))
    unheard_is none = delivered (ask_on path s.asks) refl
      where
        failed : (a : Ask) (f : Failure) → IsQuiet UsesNone n s.cache (row_of_failure (start c n words s) a f)
        failed a f = failure_is UsesNone n s.cache s own c words a f

        read_is : (a : Ask) → ask_on path s.asks ≡ Some a → nat_lt n (timeout_of c a) ≡ true → judge a from octets ≡ Whole → (r : Result Message Fault) → message_of octets ≡ r → IsQuiet UsesNone n s.cache (row_of_message (start c n words s) rooms a r)
        read_is a on live whole (Ok m) read = cond_both (is_lame (walk_of c m a.question a.route).end) _ _ (IsQuiet UsesNone n s.cache)
            (λ t. failed a failure.Lame)
            (λ f. absurd (none a on m live whole read f))
        read_is a on live whole (Err fault) read = failed a failure.Malformed

        judged : (a : Ask) → ask_on path s.asks ≡ Some a → nat_lt n (timeout_of c a) ≡ true → (v : Verdict) → judge a from octets ≡ v → IsQuiet UsesNone n s.cache (row_of_verdict (start c n words s) rooms a octets v)
        judged a on live Stranger is = idle_is UsesNone n s.cache s own
        judged a on live Truncated is = failed a failure.Truncated
        judged a on live (Failed rcode) is = failed a failure.Rcode
        judged a on live Malformed is = failed a failure.Malformed
        judged a on live Whole is = read_is a on live is (message_of octets) refl

        delivered : (r : Option Ask) → ask_on path s.asks ≡ r → IsQuiet UsesNone n s.cache (row_of_delivery (start c n words s) rooms from octets r)
        delivered None on = idle_is UsesNone n s.cache s own
        delivered (Some a) on = cond_both (nat_lt n (timeout_of c a)) _ _ (IsQuiet UsesNone n s.cache)
            (λ t. judged a on t (judge a from octets) refl)
            (λ f. idle_is UsesNone n s.cache s own)

    -- an accepted delivery is an acceptance
    pub heard_is : (a : Ask) (m : Message) → ask_on path s.asks ≡ Some a → nat_lt n (timeout_of c a) ≡ true → judge a from octets ≡ Whole → message_of octets ≡ Ok m → is_lame (walk_of c m a.question a.route).end ≡ false
        → row_of_delivery (start c n words s) rooms from octets (ask_on path s.asks) ≡ row_of_acceptance (start c n words s) rooms a (walk_of c m a.question a.route)
    heard_is a m on live whole read fine =
        ap (row_of_delivery (start c n words s) rooms from octets) on
        ∙ cond-true (nat_lt n (timeout_of c a)) _ _ live
        ∙ ap (row_of_verdict (start c n words s) rooms a octets) whole
        ∙ ap (row_of_message (start c n words s) rooms a) read
        ∙ cond-false (is_lame (walk_of c m a.question a.route).end) _ _ fine

  -- the end of the walk promotes the entries used by look-ups
  abbrev pub UsesAtEnd : Ask → Walk → End → List Slot → Type 0
  UsesAtEnd a w (elsewhere name) used = used ≡ used_by c n s.cache.entries a w s.waiting
  UsesAtEnd a w found used = UsesNone used
  UsesAtEnd a w ends_no_data used = UsesNone used
  UsesAtEnd a w ends_denied used = UsesNone used
  UsesAtEnd a w lame used = UsesNone used

  pub end_is : (a : Ask) (w : Walk) (fate : Waiting → Fate) (e : End) → IsQuiet (UsesAtEnd a w e) n s.cache (row_of_end (start c n words (with_preferred_server a s)) a w fate e)
  end_is a w fate (elsewhere name) = sent_is (UsesAtEnd a w (elsewhere name)) n s.cache (with_promoted (used_by c n s.cache.entries a w s.waiting) (with_preferred_server a s)) (used_by c n s.cache.entries a w s.waiting, refl, refl) c words a fate
      (to_be_asked (without_path a.path s.asks) (still_waiting (map fate (filter (waits_for a.question) s.waiting))))
  end_is a w fate found = record { used = []; fits = refl; cache_is = refl; moment_is = refl }
  end_is a w fate ends_no_data = record { used = []; fits = refl; cache_is = refl; moment_is = refl }
  end_is a w fate ends_denied = record { used = []; fits = refl; cache_is = refl; moment_is = refl }
  end_is a w fate lame = record { used = []; fits = refl; cache_is = refl; moment_is = refl }
