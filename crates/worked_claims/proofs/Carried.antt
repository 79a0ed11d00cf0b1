-- A history carried a single list of pieces, so all claims about a worked history mean the same
-- list. After a restart the list is empty.
use Rattle.std.proofs.Common.{◌≡◌, ◌∙◌, ℕ, List, [], ◌∷◌, ◌++◌, length, Some, refl, sym, ap, subst, inl, inr, arith}
use Rattle.std.proofs.lemmas.Bool.{true≢false}
use Rattle.dns_message.specs.Messages.{Spells}
use Rattle.dns_message.specs.Questions.{one_question}
use Rattle.dns_message.specs.Values.{Question}
use Rattle.dns_message.proofs.CallerLemmas.{one_message_is_spelled}
use Rattle.suffix_routes.specs.Values.{Config, AllDiffer}
use Rattle.suffix_routes.specs.Serving.{serving_route_of}
use Rattle.trust_rank.specs.Values.{Piece, Walk}
use Rattle.trust_rank.specs.Walks.{walk_of}
use Rattle.record_cache.specs.Values.{Held}
use Rattle.cache_laws.proofs.CallerLemmas.{serves_exactly}
use Rattle.step_values.specs.Values.{Delivered, restart, tick, Step}
use Rattle.step_history.specs.History.{ShownAsk, listed, on_path, moment_at, Accepts, Carries}
use Rattle.step_history.specs.Carried.{CarriedInEra, then_carried}
use Rattle.step_history.proofs.CallerLemmas.{accepted_pieces, accepted_end}
use Rattle.step_table.proofs.Played.{config}
use Rattle.worked_claims.proofs.Texts.{step_of}
use Rattle.worked_claims.proofs.Silent.{nothing_heard}
use Rattle.worked_claims.proofs.Accepted.{asked, answered, held, carried_now}

pub some_is : {X : Type 0} (x y : X) → Some x ≡ Some y → x ≡ y
some_is x y is = cc

-- ---- a step accepts a single reply

module _ (c : Config) (s : Step) (past : List Step) (ps ss qs ts : List Piece) (differ : AllDiffer c.routes)
    (one : Accepts c s past ps ss) (other : Accepts c s past qs ts) where
  came : ◌≡◌ {A = Delivered} (record { path = one.ask.path; from = one.ask.server; octets = one.octets })
      (record { path = other.ask.path; from = other.ask.server; octets = other.octets })
  came = some_is _ _ (sym one.matches.delivered ∙ other.matches.delivered)

  asks : one.ask ≡ other.ask
  asks = some_is one.ask other.ask (sym one.matches.is_listed
      ∙ ap (λ (d : Delivered). on_path d.path (listed past)) came ∙ other.matches.is_listed)

  questions : one.asked ≡ other.asked
  questions = some_is one.asked other.asked (sym one.matches.ask_reads
      ∙ ap (λ (x : ShownAsk). one_question x.octets) asks ∙ other.matches.ask_reads)

  routes : one.route ≡ other.route
  routes = some_is one.route other.route (sym (serves_exactly.each c one.asked.name one.route differ one.route_is)
      ∙ ap (λ (q : Question). serving_route_of c q.name) questions
      ∙ serves_exactly.each c other.asked.name other.route differ other.route_is)

  messages : one.message ≡ other.message
  messages = one_message_is_spelled other.octets one.message other.message
      (subst (λ (octets : List ℕ). Spells octets one.message) (ap (λ (d : Delivered). d.octets) came) one.spells)
      other.spells

  one_walk : walk_of c one.message one.asked one.route ≡ walk_of c other.message other.asked other.route
  one_walk = λ i. walk_of c (messages i) (questions i) (routes i)

  -- with a single end
  pub one_end : one.end ≡ other.end
  one_end = sym (accepted_end c s past ps ss differ one) ∙ ap (λ (w : Walk). w.end) one_walk
      ∙ accepted_end c s past qs ts differ other

-- a step carries a single list of pieces
pub one_carriage : (c : Config) (s : Step) (past : List Step) (ps qs : List Piece) → AllDiffer c.routes
    → Carries c s past ps → Carries c s past qs → ps ≡ qs
one_carriage c s past ps qs differ k j =
    k.are
    ∙ accepted_pieces c s past k.pieces k.servers differ k.accepts
    ∙ ap (λ (w : Walk). w.pieces ++ w.authority)
    (one_walk c s past k.pieces k.servers j.pieces j.servers differ k.accepts j.accepts)
    ∙ sym (j.are ∙ accepted_pieces c s past j.pieces j.servers differ j.accepts)

-- and an era a single list
pub one_era : (c : Config) (now : List Step) (os ps : List Held) → AllDiffer c.routes → CarriedInEra c now os
    → CarriedInEra c now ps → os ≡ ps
one_era c [] os ps differ one other = one ∙ sym other
one_era c (s ∷ past) os ps differ (inl begun) (inl again) = begun.1 ∙ sym again.1
one_era c (s ∷ past) os ps differ (inl begun) (inr (inl quiet)) = absurd (true≢false (sym begun.0 ∙ quiet.0))
one_era c (s ∷ past) os ps differ (inl begun) (inr (inr more)) = absurd (true≢false (sym begun.0 ∙ more.0))
one_era c (s ∷ past) os ps differ (inr (inl quiet)) (inl begun) = absurd (true≢false (sym begun.0 ∙ quiet.0))
one_era c (s ∷ past) os ps differ (inr (inl quiet)) (inr (inl again)) = one_era c past os ps differ quiet.2 again.2
one_era c (s ∷ past) os ps differ (inr (inl quiet)) (inr (inr more)) = absurd (quiet.1 more.1 more.3)
one_era c (s ∷ past) os ps differ (inr (inr more)) (inl begun) = absurd (true≢false (sym begun.0 ∙ more.0))
one_era c (s ∷ past) os ps differ (inr (inr more)) (inr (inl quiet)) = absurd (quiet.1 more.1 more.3)
one_era c (s ∷ past) os ps differ (inr (inr one)) (inr (inr other)) =
    let pieces : one.1 ≡ other.1 = one_carriage c s past one.1 other.1 differ one.3 other.3 in
    let before : one.2 ≡ other.2 = one_era c past one.2 other.2 differ one.4 other.4 in
    one.5 ∙ (λ k. then_carried (moment_at (s ∷ past)) (pieces k) (before k)) ∙ sym other.5

-- ---- after a restart

abbrev restarted : Step
restarted = step_of 2000 [] restart []

abbrev passes : Step
passes = step_of 2001 [] tick []

-- the pieces of the era before are gone, and stay gone
nothing_is_kept : CarriedInEra config (restarted ∷ answered ∷ asked ∷ []) []
    × CarriedInEra config (passes ∷ restarted ∷ answered ∷ asked ∷ []) []
nothing_is_kept = (
  inl (refl, refl),
  inr (inl (refl, nothing_heard config passes (restarted ∷ answered ∷ asked ∷ []) refl, inl (refl, refl))),
)

what_came_before_is_kept : CarriedInEra config (restarted ∷ answered ∷ asked ∷ []) (held ∷ []) → ⊥
what_came_before_is_kept carried =
    let none : 1 ≡ 0 = ap (λ (os : List Held). length os) (one_era config (restarted ∷ answered ∷ asked ∷ [])
    (held ∷ []) [] (tt, tt) carried nothing_is_kept.0) in
    omega (arith, none)

what_came_before_comes_back : CarriedInEra config (passes ∷ restarted ∷ answered ∷ asked ∷ []) (held ∷ []) → ⊥
what_came_before_comes_back carried =
    let none : 1 ≡ 0 = ap (λ (os : List Held). length os) (one_era config (passes ∷ restarted ∷ answered ∷ asked ∷ [])
    (held ∷ []) [] (tt, tt) carried nothing_is_kept.1) in
    omega (arith, none)

-- without the restart they are there
without_a_restart : CarriedInEra config (answered ∷ asked ∷ []) (held ∷ [])
without_a_restart = carried_now 4 0
