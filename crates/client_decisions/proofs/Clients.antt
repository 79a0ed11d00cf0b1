-- The decision on a client's message answered by no entry.
use Rattle.std.proofs.Common.{◌≡◌, ◌≢◌, ℕ, ◌<◌, ◌≤◌, length, List, true, false, sym, ap, ◌∙◌, arith, ◌+◌, [], ◌∷◌, ◌++◌, Option, Some, None}
use Rattle.std.specs.Prelude.{nat_le, ◌==◌, Box}
use Rattle.std.proofs.lemmas.Bool.{cond-true, cond-false, le-leb, lt-leb, ne_eqb}
use Rattle.std.proofs.lemmas.List.{append-nil}
use Rattle.dns_message.specs.Values.{Question}
use Rattle.suffix_routes.specs.Values.{Config}
use Rattle.trust_rank.specs.declared.slot.Slot.{Slot}
use Rattle.suffix_routes.specs.Serving.{serving_route_of}
use Rattle.step_values.specs.Requests.{is_taken}
use Rattle.answer_builder.specs.Values.{asked_in}
use Rattle.dns_message.specs.declared.reading.header.Header.{Header}
use Rattle.dns_message.specs.Header.{header_in}
use Rattle.outstanding.specs.declared.ask.Path.{Path}
use Rattle.outstanding.specs.Draws.{udp_draw}
use Rattle.outstanding.specs.Lists.{of_question}
use Rattle.outstanding.specs.Values.{Ask}
use Rattle.step_actions.specs.StepTable.State.{State, start}
use Rattle.step_actions.specs.WaitingQuestions.Values.{Waiting}
use Rattle.step_actions.specs.StepTable.Attempts.{preferred_on, peer_at, over_udp, ask_by, first_ask, first_ask_on}
use Rattle.step_actions.specs.StepTable.Steps.{Done, with_promoted, idle_step, reply_step, failed, gives_up, taking_step, asks, tcp_count}
use Rattle.step_actions.specs.AliasChains.LookingUp.{LookUp}
use Rattle.step_actions.specs.StepTable.Clients.{row_of_request, row_of_opening, row_of_new_inquiry, row_of_inquiry, row_of_waiting, waits_with}
use Rattle.step_values.specs.Values.{Action}
use Rattle.step_values.specs.declared.action.Why.TheVariants.{BadOpcode, QuestionsFull}
use Rattle.step_values.specs.declared.event.Client.{Client}
use Rattle.step_actions.specs.declared.decision.Change.TheVariants.{Join, Open}
use Rattle.step_actions.specs.declared.decision.Opening.{Opening}
use Rattle.step_actions.specs.Decision.{changed}

-- ---- the decision

-- ---- a message without a served question

pub dropped_row : (c : Config) (n : ℕ) (words : List ℕ) (client : Client) (octets : List ℕ) (s : State) (d : Done)
    → is_taken octets ≡ false → d ≡ idle_step n s → d ≡ row_of_request (start c n words s) client octets
dropped_row c n words client octets s d dropped d_is = d_is ∙ sym (cond-false (is_taken octets) _ _ dropped)

pub opcode_row : (c : Config) (n : ℕ) (words : List ℕ) (client : Client) (octets : List ℕ) (s : State) (h : Header)
    (d : Done) → is_taken octets ≡ true → h ≡ header_in octets → h.opcode ≢ 0
    → d ≡ reply_step n (failed client (asked_in h None) BadOpcode) s
    → d ≡ row_of_request (start c n words s) client octets
opcode_row c n words client octets s h d taken is other d_is =
    d_is ∙ ap (λ (g : Header). reply_step n (failed client (asked_in g None) BadOpcode) s) is
    ∙ sym (cond-false ((header_in octets).opcode == 0) _ _
    (ne_eqb (header_in octets).opcode 0 (λ same. other (ap (λ (g : Header). g.opcode) is ∙ same))))
    ∙ sym (cond-true (is_taken octets) _ _ taken)

-- ---- a waiting question

pub joined_row : (c : Config) (n : ℕ) (words : List ℕ) (x : Waiting) (s : State) (r : Option Ask) (a : Ask) (d : Done)
    → r ≡ Some a → d ≡ taking_step n x None s → d ≡ row_of_inquiry (start c n words s) x r
joined_row c n words x s r a d is d_is = d_is ∙ sym (ap (row_of_inquiry (start c n words s) x) is)

pub new_row : (c : Config) (n : ℕ) (words : List ℕ) (x : Waiting) (s : State) (r : Option Ask) (d : Done) → r ≡ None
    → d ≡ row_of_new_inquiry (start c n words s) x → d ≡ row_of_inquiry (start c n words s) x r
new_row c n words x s r d is d_is = d_is ∙ sym (ap (row_of_inquiry (start c n words s) x) is)

-- the question may wait: the limit is not reached
pub waiting_row : (c : Config) (n : ℕ) (words : List ℕ) (x : Waiting) (s : State) (d : Done)
    → length s.waiting < c.limits.questions → d ≡ row_of_inquiry (start c n words s) x (of_question x.wanted s.asks)
    → d ≡ row_of_waiting (start c n words s) x
waiting_row c n words x s d room d_is = d_is ∙ sym
    (cond-false (nat_le c.limits.questions (length s.waiting)) _ _
    (lt-leb c.limits.questions (length s.waiting) room))

-- without room among the questions
pub full_row : (c : Config) (n : ℕ) (words : List ℕ) (x : Waiting) (l : LookUp) (s : State) (d : Done)
    → c.limits.questions ≤ length s.waiting → d ≡ reply_step n (gives_up QuestionsFull x) s
    → d ≡ row_of_waiting (start c n words s) (waits_with x l)
full_row c n words x l s d full d_is =
    d_is
    ∙ sym (cond-true (nat_le c.limits.questions (length s.waiting)) _ _
    (le-leb c.limits.questions (length s.waiting) full))

-- the first ask goes to its route's preferred server
pub asked_first : (c : Config) (n : ℕ) (words : List ℕ) (q : Question) (route : ℕ) (s : State) (server : ℕ)
    (draw : Option (ℕ × ℕ)) (drawn : Option (ℕ × Path)) (ask : Option Ask) → server ≡ preferred_on s route
    → draw ≡ udp_draw words s.asks None
    → drawn ≡ over_udp draw → ask ≡ ask_by n q route server 1 (peer_at c route server) drawn
    → ask ≡ first_ask (start c n words s) q route
asked_first c n words q route s server draw drawn ask server_is draw_is drawn_is is =
    is ∙ (λ i. ask_by n q route (server_is i) 1 (peer_at c route (server_is i)) (drawn_is i))
    ∙ (λ i. ask_by n q route (preferred_on s route) 1 (peer_at c route (preferred_on s route)) (over_udp (draw_is i)))

-- the result of the first ask, without a look at an entry
pub opened_row : (c : Config) (n : ℕ) (words : List ℕ) (x : Waiting) (s : State) (used : List Slot) (route : ℕ)
    (q : Question) (a : Option Ask) (d : Done) → length s.asks < c.limits.inquiries
    → serving_route_of c x.wanted.name ≡ Some route → q ≡ x.wanted
    → a ≡ first_ask (start c n words s) q route → d ≡ row_of_opening n x (with_promoted used s) a
    → d ≡ row_of_new_inquiry (start c n words (with_promoted used s)) x
opened_row c n words x s used route q a d room on q_is a_is d_is =
    d_is
    ∙ ap (row_of_opening n x (with_promoted used s)) (a_is
    ∙ ap (λ (z : Question). first_ask (start c n words s) z route) q_is
    ∙ sym (ap (first_ask_on (start c n words (with_promoted used s)) x.wanted) on))
    ∙ sym (cond-false (nat_le c.limits.inquiries (length s.asks)) _ _ (lt-leb c.limits.inquiries (length s.asks) room))

-- a waiting question, and its ask
pub opened_is : (A : Type 0) (n : ℕ) (s : State) (x : Waiting) (a : Ask) (boxed : Box (Opening A) A)
    (actions : List Action) → boxed.value.waiting ≡ x → boxed.value.ask ≡ a → actions ≡ asks a ∷ []
    → record { actions = actions; unkept = 0; state = changed {A = A} n s (Open boxed) } ≡ row_of_opening n x s (Some a)
opened_is A n s x a boxed actions x_is a_is told = λ i. record {
  actions = told i;
  unkept = 0;
  state = record {
    cache = s.cache;
    asks = s.asks ++ a_is i ∷ [];
    waiting = s.waiting ++ x_is i ∷ [];
    preferred = s.preferred;
    moment = n;
    tcp_asks = s.tcp_asks + tcp_count (Some (a_is i));
  };
}

pub joined_is : (A : Type 0) (n : ℕ) (s : State) (x : Waiting) (boxed : Box Waiting A) (actions : List Action)
    → boxed.value ≡ x → actions ≡ []
    → record { actions = actions; unkept = 0; state = changed {A = A} n s (Join boxed) } ≡ taking_step n x None s
joined_is A n s x boxed actions is none = λ i. record {
  actions = none i;
  unkept = 0;
  state = record {
    cache = s.cache;
    asks = sym (append-nil s.asks) i;
    waiting = s.waiting ++ is i ∷ [];
    preferred = s.preferred;
    moment = n;
    tcp_asks = no_more s.tcp_asks i;
  };
}
  where
    no_more : (k : ℕ) → k ≡ k + 0
    no_more k = omega arith
