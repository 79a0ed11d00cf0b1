-- The worked reply carried its piece alone, and leads to no further name.
use Rattle.std.proofs.Common.{◌≡◌, ◌∙◌, ℕ, List, [], ◌∷◌, ◌++◌, Some, Ok, Result, sym, ap, subst}
use Rattle.dns_message.specs.declared.names.fault.Fault.{Fault}
use Rattle.dns_message.specs.Names.{step as name_step, walk_in, name_within}
use Rattle.dns_message.specs.Records.{octets_end, question_at}
use Rattle.dns_message.specs.Messages.{message_of, first_question}
use Rattle.dns_message.specs.Questions.{one_question}
use Rattle.dns_message.specs.Values.{Question, Message}
use Rattle.dns_message.proofs.CallerLemmas.{spelled_message_is_read}
use Rattle.suffix_routes.specs.Routes.{route_of}
use Rattle.suffix_routes.specs.Serving.{serving_route_of}
use Rattle.trust_rank.specs.Values.{Piece, found, elsewhere, Walk}
use Rattle.trust_rank.specs.Walks.{walk_from, servers_from, walk_of}
use Rattle.outstanding.specs.declared.ask.Path.{Path}
use Rattle.outstanding.specs.declared.ask.Path.TheVariants.{Udp}
use Rattle.cache_laws.proofs.CallerLemmas.{serves_exactly}
use Rattle.step_values.specs.Values.{Delivered}
use Rattle.step_history.specs.History.{ShownAsk, listed, on_path, Accepts, Carries}
use Rattle.step_history.proofs.CallerLemmas.{accepted_pieces, accepted_end}
use Rattle.step_table.proofs.Played.{a, address, server, config}
use Rattle.worked_claims.proofs.Accepted.{asked, answered, reply_text, says, reply_is_read, ask, piece}

module _ (pieces servers : List Piece) (k : Accepts config answered (asked ∷ []) pieces servers) where
  sent : Delivered
  sent = record { path = Udp 1032; from = server; octets = reply_text }

  awaited : Delivered
  awaited = record { path = k.ask.path; from = k.ask.server; octets = k.octets }

  delivered : sent ≡ awaited
  unfolding sent awaited
  delivered = let one : Some sent ≡ Some awaited = k.matches.delivered in cc

  message_is : says 60 ≡ k.message
  unfolding delivered sent awaited
  message_is =
      let one : ◌≡◌ {A = Result Message Fault} (Ok (says 60)) (Ok k.message) =
      sym reply_is_read ∙ ap (λ (d : Delivered). message_of d.octets) delivered ∙ spelled_message_is_read k.octets k.message k.spells in
      cc

  ask_is : ask ≡ k.ask
  unfolding delivered sent awaited
  ask_is =
      let one : Some ask ≡ Some k.ask = subst (λ (p : Path). on_path p (listed (asked ∷ [])) ≡ Some k.ask) (ap (λ (d : Delivered). d.path) (sym delivered)) k.matches.is_listed in
      cc

  question_is : address a ≡ k.asked
  unfolding first_question question_at octets_end name_within walk_in name_step
  question_is = let one : Some (address a) ≡ Some k.asked = subst (λ (x : ShownAsk). one_question x.octets ≡ Some k.asked) (sym ask_is) k.matches.ask_reads in cc

  route_is : 0 ≡ k.route
  unfolding route_of
  route_is =
      let one : Some 0 ≡ Some k.route = subst (λ (q : Question). serving_route_of config q.name ≡ Some k.route) (sym question_is) (serves_exactly.each config k.asked.name k.route (tt, tt) k.route_is) in
      cc

  walk_is : walk_of config (says 60) (address a) 0 ≡ walk_of config k.message k.asked k.route
  walk_is = λ i. walk_of config (message_is i) (question_is i) (route_is i)

  pub pieces_are : pieces ++ servers ≡ piece ∷ []
  unfolding route_of walk_from servers_from
  pieces_are =
      accepted_pieces config answered (asked ∷ []) pieces servers (tt, tt) k
      ∙ ap (λ (w : Walk). w.pieces ++ w.authority) (sym walk_is)

  end_is : found ≡ k.end
  unfolding route_of walk_from servers_from
  end_is = ap (λ (w : Walk). w.end) walk_is ∙ accepted_end config answered (asked ∷ []) pieces servers (tt, tt) k

  pub leads_nowhere : (name : List (List ℕ)) → k.end ≡ elsewhere name → ⊥
  leads_nowhere name on = let same : found ≡ elsewhere name = end_is ∙ on in absurd (cc)

-- the step carried this piece alone
pub carries_this : (ps : List Piece) → Carries config answered (asked ∷ []) ps → ps ≡ piece ∷ []
carries_this ps k = k.are ∙ pieces_are k.pieces k.servers k.accepts
