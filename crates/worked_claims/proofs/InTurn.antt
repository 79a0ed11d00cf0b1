-- Turns of the servers in the worked histories: a first ask goes to the preferred server. After the
-- reply of the first server this server is preferred.
use Rattle.std.proofs.Common.{◌≡◌, ◌∙◌, ℕ, List, [], ◌∷◌, Bool, false, Some, None, refl, sym, ap, subst, inl, inr}
use Rattle.dns_message.specs.Names.{step as name_step, walk_in, name_within}
use Rattle.dns_message.specs.Records.{octets_end, question_at}
use Rattle.dns_message.specs.Messages.{first_question}
use Rattle.dns_message.specs.Questions.{one_question}
use Rattle.dns_message.specs.Values.{Question}
use Rattle.suffix_routes.specs.declared.limits.Limits.{Limits}
use Rattle.suffix_routes.specs.Routes.{route_of}
use Rattle.suffix_routes.specs.Serving.{serving_route_of}
use Rattle.suffix_routes.specs.Values.{Config}
use Rattle.outstanding.specs.declared.ask.Path.TheVariants.{Udp}
use Rattle.trust_rank.specs.Values.{Piece}
use Rattle.step_values.specs.Values.{delivery_in, Step}
use Rattle.cache_laws.proofs.CallerLemmas.{serves_exactly}
use Rattle.step_history.specs.Causes.{SendsAsk, NoneAsks}
use Rattle.step_history.specs.History.{is_restart, ShownAsk, listed, on_path, Reads, Accepts}
use Rattle.step_history.specs.Turns.{AskedAt, NoneAnswersOn, IsPreferred, TakesTurn, AsksInTurn}
use Rattle.step_table.proofs.Played.{a, address, server, config}
use Rattle.worked_claims.proofs.Texts.{no_delivery, the_only_ask}
use Rattle.worked_claims.proofs.Accepted.{asked, answered, ask, piece, accepts}
use Rattle.worked_claims.proofs.Brought.{question_is}
use Rattle.worked_claims.proofs.FirstStep.{first, word, asks_it}
use Rattle.worked_claims.proofs.Whole.{history}

-- ---- the preferred server

pub none_answers : (c : Config) (route : ℕ) (s : Step) (past : List Step) → delivery_in s.input.event ≡ None
    → NoneAnswersOn c route s past
none_answers c route s past none pieces servers k on = no_delivery (sym none ∙ k.matches.delivered)

-- a step without a delivery prefers as before
pub prefers_on : (c : Config) (s : Step) (past : List Step) (places : List ℕ) (own place : ℕ) → is_restart s ≡ false
    → delivery_in s.input.event ≡ None → IsPreferred c 0 past places place
    → IsPreferred c 0 (s ∷ past) (own ∷ places) place
prefers_on c s past places own place runs none was = inr (inr (runs, none_answers c 0 s past none, was))

-- the accepted reply is to the only listed ask, and on the only route
pub prefers_the_answering : (s : Step) (past : List Step) (places : List ℕ) (own place : ℕ) (x : ShownAsk) (q : Question)
    (pieces servers : List Piece) → Accepts config s past pieces servers → listed past ≡ x ∷ [] → Reads x.octets q
    → serving_route_of config q.name ≡ Some 0 → AskedAt q past places place
    → IsPreferred config 0 (s ∷ past) (own ∷ places) place
prefers_the_answering s past places own place x q pieces servers k one reads on at = inr (inl (record {
  pieces = pieces;
  servers = servers;
  accepts = k;
  on_route = route_is;
  asked = subst (λ (z : Question). AskedAt z past places place) (sym asked_is) at;
}))
  where
    its_ask : x ≡ k.ask
    its_ask = the_only_ask _ x k.ask (sym (ap (on_path k.ask.path) one) ∙ k.matches.is_listed)

    asked_is : k.asked ≡ q
    asked_is = sym (question_is q k.asked
        (sym reads ∙ ap (λ (y : ShownAsk). one_question y.octets) its_ask ∙ k.matches.ask_reads))

    route_is : k.route ≡ 0
    route_is =
        let two : Some k.route ≡ Some 0 = sym (serves_exactly.each config k.asked.name k.route (tt, tt) k.route_is)
        ∙ ap (λ (z : Question). serving_route_of config z.name) asked_is ∙ on in
        let same : k.route ≡ 0 = cc in
        same

-- ---- first asks

-- the first ask of the first step
pub first_turn : (limits : Limits) (more : Bool) (words : List ℕ)
    → AsksInTurn (record config { limits = limits }) (first more words asks_it ∷ []) (0 ∷ [])
unfolding first_question question_at octets_end name_within walk_in name_step route_of
first_turn limits more words = (
  tt,
  (
    record {
      question = address a;
      reads = refl;
      route = 0;
      group = _;
      route_is = serves_exactly.only (record config { limits = limits }) a 0 refl;
      there = refl;
      server = refl;
      turn = inl (record {
        begins = (inl (address a, refl, refl), inl tt);
        by_udp = tt;
        preferred = inr (inr (refl, none_answers (record config { limits = limits }) 0 (first more words asks_it) [] refl, refl));
      });
    },
    tt,
  ),
)

-- its server is at the first place
pub first_place : AskedAt (address a) (asked ∷ []) (0 ∷ []) 0
unfolding first_question question_at octets_end name_within walk_in name_step
first_place = inl (inl (address a, refl, refl), refl)

-- a further first ask, of the first server, which is preferred
pub begins_turn : (s : Step) (past : List Step) (places : List ℕ) (port : ℕ) (octets : List ℕ) (q : Question)
    → Reads octets q → serving_route_of config q.name ≡ Some 0 → SendsAsk q s.outcome.actions → NoneAsks q (listed past)
    → IsPreferred config 0 (s ∷ past) (0 ∷ places) 0
    → TakesTurn config s past places 0 (record { path = Udp port; server = server; octets = octets })
begins_turn s past places port octets q reads on sends none preferred = record {
  question = q;
  reads = reads;
  route = 0;
  group = _;
  route_is = serves_exactly.only config q.name 0 on;
  there = refl;
  server = refl;
  turn = inl (record { begins = (sends, inl none); by_udp = tt; preferred = preferred });
}

-- ---- asked, and answered

pub turns_so_far : AsksInTurn config history (0 ∷ 0 ∷ [])
turns_so_far = (first_turn config.limits false word, (tt, (tt, tt)))

pub prefers_first : IsPreferred config 0 history (0 ∷ 0 ∷ []) 0
unfolding first_question question_at octets_end name_within walk_in name_step route_of
prefers_first = prefers_the_answering answered (asked ∷ []) (0 ∷ []) 0 0 ask (address a) (piece ∷ []) [] (accepts 4 0) refl
    refl refl first_place
