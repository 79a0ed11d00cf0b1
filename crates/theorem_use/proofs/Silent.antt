-- A message not answered by the cache gets no answer in its step.
use Rattle.std.proofs.Common.{◌≡◌, ℕ, List, [], ◌∷◌, length, true, false, refl, inl, inr, Option, Some, None}
use Rattle.std.specs.Prelude.{◌==◌, nat_le, Result, Ok, Err, map}
use Rattle.std.proofs.lemmas.Bool.{cond_both}
use Rattle.dns_message.specs.Header.{header_in}
use Rattle.dns_message.specs.Values.{Question}
use Rattle.dns_message.specs.Questions.{one_question, is_unserved}
use Rattle.suffix_routes.specs.Values.{Config}
use Rattle.suffix_routes.specs.Serving.{serving_route_of, is_local}
use Rattle.outstanding.specs.declared.ask.Path.{Path}
use Rattle.outstanding.specs.declared.ask.Path.TheVariants.{Udp, Tcp}
use Rattle.outstanding.specs.Lists.{of_question}
use Rattle.outstanding.specs.Values.{Ask}
use Rattle.trust_rank.specs.Walks.{most_aliases}
use Rattle.record_cache.specs.Values.{Held}
use Rattle.answer_builder.specs.declared.fault.Fault.{Fault}
use Rattle.answer_builder.specs.Transports.{local_answer_of}
use Rattle.step_values.specs.declared.event.Client.{Client}
use Rattle.step_values.specs.declared.action.Why.{Why}
use Rattle.step_values.specs.declared.action.Why.TheVariants.{Answered, BadFormat, BadOpcode, NotServed, NoRoute, QuestionsFull}
use Rattle.step_values.specs.declared.action.Why.TheVariants.{InquiriesFull, NoPort, ChainLong, TooLarge, LocalDenied}
use Rattle.step_values.specs.Values.{Action, send_reply}
use Rattle.step_values.specs.Requests.{is_taken}
use Rattle.step_history.specs.Sound.{Replies}
use Rattle.step_table.specs.State.{State, start}
use Rattle.step_table.specs.WaitingQuestions.Values.{Waiting}
use Rattle.step_table.specs.Attempts.{first_ask_for}
use Rattle.alias_chains.specs.LookingUp.{LookUpEnd, ends, too_long, missed, LookUp, look_up}
use Rattle.step_table.specs.Steps.{Done, with_promoted, asks_by, asks, ask_list, transport_of, sends}
use Rattle.step_table.specs.Clients.{without_server, fate_missed, fate_at, taken_now, waits_with, row_of_opening, row_of_inquiry, row_of_waiting, row_of_fate, row_of_route, row_of_question, row_of_request}

-- no reply of these actions is an answer
abbrev pub IsSilent : List Action → Type 0
IsSilent actions = (octets : List ℕ) → Replies actions octets → ⊥

-- a reply with a reason other than `Answered`
abbrev IsOther : Action → Type 0
IsOther a = IsSilent (a ∷ [])

-- the reply of a text, fitting or not
sends_silent : (why : Why) (x : Waiting) → ((octets : List ℕ) → IsOther (send_reply x.client octets why)) → ((octets : List ℕ) → IsOther (send_reply x.client octets TooLarge))
    → (r : Result (List ℕ) Fault) → IsOther (sends why x r)
sends_silent why x other large (Ok text) = other text
sends_silent why x other large (Err fault) = large _

other_why : (why : Why) → (why ≡ Answered → ⊥) → (client : Client) (o : List ℕ) → IsOther (send_reply client o why)
other_why why differs client o octets (inl (is, same)) = differs is
other_why why differs client o octets (inr never) = never

not_large : (client : Client) (o : List ℕ) → IsOther (send_reply client o TooLarge)
not_large = other_why TooLarge (λ is. absurd (cc))

asked_silent : (path : Path) (a : Ask) → IsOther (asks_by path a)
asked_silent (Udp port) a octets (inl never) = never
asked_silent (Udp port) a octets (inr never) = never
asked_silent (Tcp conn) a octets (inl never) = never
asked_silent (Tcp conn) a octets (inr never) = never

module _ (c : Config) (n : ℕ) (words : List ℕ) where
  -- ---- a waiting question

  asks_silent : (next : Option Ask) → IsSilent (map asks (ask_list next))
  asks_silent None octets never = never
  asks_silent (Some a) octets reply = asked_silent a.path a octets reply

  opening_silent : (y : Waiting) (s : State) (r : Option Ask) → IsSilent (row_of_opening n y s r).actions
  opening_silent y s None = other_why NoPort (λ is. absurd (cc)) y.client _
  opening_silent y s (Some a) = asks_silent (Some a)

  inquiry_silent : (y : Waiting) (s : State) (r : Option Ask) → IsSilent (row_of_inquiry (start c n words s) y r).actions
  inquiry_silent y s None = cond_both (nat_le c.limits.inquiries (length s.asks)) _ _ (λ (d : Done). IsSilent d.actions)
      (λ t. other_why InquiriesFull (λ is. absurd (cc)) y.client _)
      (λ f. opening_silent y s (first_ask_for (start c n words s) y.wanted))
  inquiry_silent y s (Some a) = asks_silent None

  waiting_silent : (y : Waiting) (s : State) → IsSilent (row_of_waiting (start c n words s) y).actions
  waiting_silent y s = cond_both (nat_le c.limits.questions (length s.waiting)) _ _ (λ (d : Done). IsSilent d.actions)
      (λ t. other_why QuestionsFull (λ is. absurd (cc)) y.client _)
      (λ f. inquiry_silent y s (of_question y.wanted s.asks))

  -- ---- a question after its look-up

  server_silent : (x : Waiting) (aliases : List Held) (name : List (List ℕ)) → IsOther (without_server c n x aliases name)
  server_silent x aliases name = cond_both (is_local c name) _ _ IsOther
      (λ t. sends_silent LocalDenied x (other_why LocalDenied (λ is. absurd (cc)) x.client) (not_large x.client) (local_answer_of x.asked aliases n (transport_of x.client)))
      (λ f. other_why NoRoute (λ is. absurd (cc)) x.client _)

  missed_silent : (x : Waiting) (l : LookUp) (s : State) (r : Option ℕ) → IsSilent (row_of_fate (start c n words s) (fate_missed c n x l r)).actions
  missed_silent x l s None = server_silent x l.held l.wanted.name
  missed_silent x l s (Some route) = waiting_silent (waits_with x l) s

  fate_silent : (x : Waiting) (l : LookUp) (s : State) (m : LookUpEnd) → ((e : Held) → m ≡ ends e → ⊥) → IsSilent (row_of_fate (start c n words s) (fate_at c n x l m)).actions
  fate_silent x l s (ends e) no_end = absurd (no_end e refl)
  fate_silent x l s too_long no_end = other_why ChainLong (λ is. absurd (cc)) x.client _
  fate_silent x l s missed no_end = missed_silent x l s (serving_route_of c l.wanted.name)

  -- ---- a message

  module _ (s : State) (client : Client) (request : List ℕ)
      (no_hit : is_taken request ≡ true → ((header_in request).opcode == 0) ≡ true → (q : Question) → one_question request ≡ Some q → is_unserved q ≡ false → (route : ℕ)
      → serving_route_of c q.name ≡ Some route → (e : Held) → (look_up c.routes n s.cache.entries most_aliases [] q).met ≡ ends e → ⊥) where
    abbrev pub Silent : Done → Type 0
    Silent d = IsSilent d.actions

    routed : is_taken request ≡ true → ((header_in request).opcode == 0) ≡ true → (q : Question) → one_question request ≡ Some q → is_unserved q ≡ false → (r : Option ℕ) → serving_route_of c q.name ≡ r
        → Silent (row_of_route (start c n words s) (taken_now n client (header_in request) q) r)
    routed t z q reads served None none = server_silent (taken_now n client (header_in request) q) [] q.name
    routed t z q reads served (Some route) on =
        let l : LookUp = look_up c.routes n s.cache.entries most_aliases [] q in
        fate_silent (taken_now n client (header_in request) q) l (with_promoted l.used s) l.met (no_hit t z q reads served route on)

    asked : is_taken request ≡ true → ((header_in request).opcode == 0) ≡ true → (r : Option Question) → one_question request ≡ r → Silent (row_of_question (start c n words s) client (header_in request) r)
    asked t z None none = other_why BadFormat (λ is. absurd (cc)) client _
    asked t z (Some q) reads = cond_both (is_unserved q) _ _ Silent (λ u. other_why NotServed (λ is. absurd (cc)) client _) (λ served. routed t z q reads served (serving_route_of c q.name) refl)

    pub request_silent : Silent (row_of_request (start c n words s) client request)
    request_silent = cond_both (is_taken request) _ _ Silent
        (λ t. cond_both ((header_in request).opcode == 0) _ _ Silent (λ z. asked t z (one_question request) refl) (λ z. other_why BadOpcode (λ is. absurd (cc)) client _))
        (λ f. nothing)
      where
        nothing : IsSilent []
        nothing octets never = never
