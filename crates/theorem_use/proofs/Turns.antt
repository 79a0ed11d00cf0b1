-- After each row the step's ask took its turn, and the state has the places of the asked and of the
-- preferred servers.
use Rattle.std.proofs.Common.{◌≡◌, ◌∙◌, ℕ, zero, suc, ◌+◌, ◌%◌, ◌<◌, ◌≤◌, arith, List, [], ◌∷◌, ◌++◌, length, Bool, true, false, refl, sym, ap, subst, inl, inr, Option, Some, None}
use Rattle.std.specs.Prelude.{map, get_or, slice_get, slice_set, ◌==◌, ◌⊎◌}
use Rattle.std.specs.List.{cons_option, AllByRecursion}
use Rattle.std.proofs.lemmas.Bool.{eqb-true, eqb-false, true≢false}
use Rattle.std.proofs.lemmas.List.{get_or-set_same, get_or-set_other}
use Rattle.std.proofs.lemmas.Option.{slice_get_within}
use Rattle.dns_message.specs.Questions.{same_question}
use Rattle.dns_message.specs.Values.{Question}
use Rattle.dns_message.specs.Writing.{written}
use Rattle.plain_values.specs.Octets.{AreOctets}
use Rattle.suffix_routes.specs.declared.peer.Peer.{Peer}
use Rattle.suffix_routes.specs.Values.{Config, Route}
use Rattle.suffix_routes.specs.Serving.{serving_route_of}
use Rattle.outstanding.specs.declared.ask.Path.{Path}
use Rattle.outstanding.specs.declared.ask.Path.TheVariants.{Udp, Tcp}
use Rattle.outstanding.specs.Draws.{ask_message}
use Rattle.outstanding.specs.Lists.{on_path as ask_on, AreInTurn, Follows}
use Rattle.outstanding.specs.Values.{Ask}
use Rattle.outstanding.proofs.CallerLemmas.{all_without_path}
use Rattle.trust_rank.specs.Values.{Piece, Walk}
use Rattle.trust_rank.specs.Walks.{walk_of}
use Rattle.step_values.specs.Values.{Action, ask_udp, ask_tcp, close_udp, close_tcp, send_reply, SentAsk, ask_in, Step}
use Rattle.step_values.specs.Values.{Delivered, Event, from_client, delivery, path_failed, tick, restart}
use Rattle.step_history.specs.Causes.{SendsAsk, FailsAsk, BeginsToAsk, FailedSoFar}
use Rattle.step_history.specs.History.{is_restart, Accepts, Carries}
use Rattle.step_history.specs.Turns.{BringsCut, AskedAt, IsPreferred, AsksFirst, AsksNext, TakesTurn, TakesItsTurn}
use Rattle.step_history.proofs.CacheLaws.CallerLemmas.{serves_exactly}
use Rattle.step_table.specs.Attempts.{group_of, servers_in, preferred_on}
use Rattle.step_table.specs.Progress.{ArePreferred}
use Rattle.step_table.specs.Row.{Happens, HandsOctets, effective}
use Rattle.step_table.specs.State.{State, start}
use Rattle.step_table.specs.Steps.{Done, Fate, gets, waits, initial, reply_in, replies, closes, closing, without_ask, asks, asks_by, ask_list}
use Rattle.step_table.proofs.CallerLemmas.{All-append, All-first, All-weaker, ask_on-is}
use Rattle.theorem_sound.proofs.Actions.{Speaks}
use Rattle.theorem_sound.proofs.Attempts.{group_there}
use Rattle.theorem_sound.proofs.CallerLemmas.{IsHeard, heard, heard_asked, carries, carries_asked}
use Rattle.theorem_sound.proofs.Tries.{IsNextOf, settled_sends, sends_settled}
use Rattle.theorem_sound.specs.Explains.{Tried, Explains}
use Rattle.theorem_use.specs.Mirrors.{HasTurns}
use Rattle.theorem_use.proofs.Asked.{same_as_itself, same_turned, NextHas}
use Rattle.theorem_use.proofs.TurnRows.{IsFirst, IsNext, Moves, MovesBy, request_row, delivery_row, path_row, tick_row}

-- ---- lists

-- the last ask has another question than the asks before it
last_follows : (asks : List Ask) (b : Ask) → AreInTurn (asks ++ b ∷ [])
    → AllByRecursion (λ a. same_question a.question b.question ≡ false) asks
last_follows [] b turn = tt
last_follows (a ∷ asks) b turn =
    ((All-first (Follows a) asks (b ∷ []) turn.0).1.0.question, last_follows asks b turn.1)

-- at first, and after a restart, each route's first server is preferred
abbrev zeros : List Route → List ℕ
zeros routes = map (λ r. 0) routes

first_places : (routes : List Route) (route : ℕ) → ◌≡◌ {A = ℕ} (get_or (zeros routes) route 0) 0
first_places [] route = refl
first_places (r ∷ routes) zero = refl
first_places (r ∷ routes) (suc route) = first_places routes route

as_many : (routes : List Route) (places : List ℕ) → ArePreferred routes places → length routes ≡ length places
as_many [] [] are = refl
as_many [] (p ∷ places) are = absurd are
as_many (r ∷ routes) [] are = absurd are
as_many (r ∷ routes) (p ∷ places) are = ap suc (as_many routes places are.1)

not_delivered : {d : Delivered} → None ≡ Some d → ⊥
not_delivered is = absurd (cc)

-- ---- the actions of a settling step

abbrev sent : Ask → SentAsk
sent b = record { path = b.path; server = b.peer; octets = written (ask_message b.id b.question) }

module _ (P : Option SentAsk → Type 0) (none : P None) where
  abbrev Each : List Action → Type 0
  Each actions = AllByRecursion (λ a. P (ask_in a)) actions

  each_closes : (close : Option Ask) → Each (closing close)
  each_closes None = tt
  each_closes (Some a) = by a.path
    where
      by : (p : Path) → Each (closes p ∷ [])
      by (Udp port) = (none, tt)
      by (Tcp conn) = (none, tt)

  each_replies : (fates : List Fate) → AllByRecursion Speaks fates → Each (replies fates)
  each_replies [] speak = tt
  each_replies (v ∷ fates) speak = by v speak.0 (each_replies fates speak.1)
    where
      by : (u : Fate) → Speaks u → Each (replies fates) → Each (cons_option (reply_in u) (replies fates))
      by (gets (send_reply client octets why)) speaks rest = (none, rest)
      by (gets (ask_udp port server octets)) speaks rest = absurd speaks
      by (gets (ask_tcp conn server octets)) speaks rest = absurd speaks
      by (gets (close_udp port)) speaks rest = absurd speaks
      by (gets (close_tcp conn)) speaks rest = absurd speaks
      by (waits y) speaks rest = rest

  each_asks : (next : Option Ask) → NextHas (λ b. P (Some (sent b))) next → Each (map asks (ask_list next))
  each_asks None has = tt
  each_asks (Some b) has = by b.path has
    where
      by : (p : Path) → P (Some (record { path = p; server = b.peer; octets = written (ask_message b.id b.question) }))
          → Each (asks_by p b ∷ [])
      by (Udp port) h = (h, tt)
      by (Tcp conn) h = (h, tt)

  each_settled : (close : Option Ask) (fates : List Fate) (next : Option Ask) → AllByRecursion Speaks fates
      → NextHas (λ b. P (Some (sent b))) next → Each (closing close ++ (replies fates ++ map asks (ask_list next)))
  each_settled close fates next speak has = All-append (λ a. P (ask_in a)) (closing close) _ (each_closes close)
      (All-append (λ a. P (ask_in a)) (replies fates) _ (each_replies fates speak) (each_asks next has))

module _ (c : Config) (past : List Step) (w : List (List ℕ)) (s : State) (x : Explains c past w s) (now : ℕ)
    (words : List ℕ) (unkept : ℕ) (more : Bool) (was : HasTurns c past s) where
  abbrev n : ℕ
  n = effective now s

  abbrev told : Event → Done → Step
  told e d = record {
    input = record { now = now; words = words; event = e };
    outcome = record { actions = d.actions; unkept = unkept; more = more };
  }

  -- ---- after a row that moves so

  module _ (e : Event) (d : Done) (w' : List (List ℕ)) (x' : Explains c (told e d ∷ past) w' d.state)
      (preferred : List ℕ) (close : Option Ask) (fates : List Fate) (speak : AllByRecursion Speaks fates)
      (preferred_are : d.state.preferred ≡ preferred)
      (prefers : (place route : ℕ) → IsPreferred c route (told e d ∷ past) (place ∷ was.places) (get_or preferred route 0))
    where
      abbrev t : Step
      t = told e d

      abbrev kept : List Ask
      kept = without_ask close s.asks

      kept_asked : AllByRecursion (λ a. AskedAt a.question past was.places a.server) kept
      kept_asked = by close
        where
          by : (o : Option Ask) → AllByRecursion (λ a. AskedAt a.question past was.places a.server) (without_ask o s.asks)
          by None = was.asked
          by (Some a) = all_without_path (λ b. AskedAt b.question past was.places b.server) a.path s.asks was.asked

      prefers_now : (place route : ℕ) → IsPreferred c route (t ∷ past) (place ∷ was.places) (preferred_on d.state route)
      prefers_now place route = subst (λ (ps : List ℕ). IsPreferred c route (t ∷ past) (place ∷ was.places) (get_or ps route 0))
          (sym preferred_are) (prefers place route)

      -- asks for which the step sends none stay at their places
      still_asked : (place : ℕ) (as' : List Ask) → AllByRecursion (λ a. SendsAsk a.question d.actions → ⊥) as'
          → AllByRecursion (λ a. AskedAt a.question past was.places a.server) as'
          → AllByRecursion (λ a. AskedAt a.question (t ∷ past) (place ∷ was.places) a.server) as'
      still_asked place [] none at = tt
      still_asked place (a ∷ as') none at = (inr (none.0, at.0), still_asked place as' none.1 at.1)

      -- the step sends no ask
      sends_none : d.actions ≡ closing close ++ (replies fates ++ []) → d.state.asks ≡ kept ++ [] → HasTurns c (t ∷ past) d.state
      sends_none actions asks_are = record {
        places = 0 ∷ was.places;
        turns = (
          was.turns,
          subst (AllByRecursion (λ a. TakesItsTurn c t past was.places 0 (ask_in a))) (sym actions)
              (each_settled (TakesItsTurn c t past was.places 0) tt close fates None speak tt),
        );
        asked = subst (AllByRecursion (λ a. AskedAt a.question (t ∷ past) (0 ∷ was.places) a.server)) (sym asks_are)
            (All-append (λ a. AskedAt a.question (t ∷ past) (0 ∷ was.places) a.server) kept []
            (still_asked 0 kept (all kept) kept_asked) tt);
        prefers = prefers_now 0;
      }
        where
          all : (as' : List Ask) → AllByRecursion (λ a. SendsAsk a.question d.actions → ⊥) as'
          all [] = tt
          all (a ∷ as') = (
            (λ k. sends_settled a.question close fates None speak (subst (SendsAsk a.question) actions k)),
            all as',
          )

      -- the step sends an ask
      module _ (b : Ask) (actions : d.actions ≡ closing close ++ (replies fates ++ map asks (b ∷ [])))
          (asks_are : d.state.asks ≡ kept ++ b ∷ [])
          (turn : IsFirst c past w s x now words unkept more preferred b
          ⊎ IsNext c past w s x now words unkept more (BringsCut c t past) b) where
        tried : Tried c (t ∷ past) b
        tried = (All-first (Tried c (t ∷ past)) kept (b ∷ []) (subst (AllByRecursion (Tried c (t ∷ past))) asks_are x'.tried)).1.0

        sends : SendsAsk b.question d.actions
        sends = subst (SendsAsk b.question) (sym actions)
            (settled_sends b.question close fates (Some b) (b.question, tried.reads, same_as_itself b.question))

        others : AllByRecursion (λ a. SendsAsk a.question d.actions → ⊥) kept
        others = All-weaker (λ a. same_question a.question b.question ≡ false) (λ a. SendsAsk a.question d.actions → ⊥)
            (λ a apart k.
            let next : IsNextOf a.question (Some b) =
            sends_settled a.question close fates (Some b) speak (subst (SendsAsk a.question) actions k) in
            let one : Some next.0 ≡ Some b.question = sym next.1 ∙ tried.reads in
            let own : next.0 ≡ b.question = cc in
            true≢false (sym (same_turned b.question a.question
            (ap (λ (q : Question). same_question q a.question) (sym own) ∙ next.2)) ∙ apart))
            kept (last_follows kept b (subst AreInTurn asks_are x'.asks_are.by_arrival))

        is_first : (k : ℕ) → k ≡ 0 → FailedSoFar c b.question (t ∷ past) k → BeginsToAsk c b.question t past
        is_first zero none h = elim h.1 [
          | inl new ↦ new
          | inr left ↦ absurd (left.0.1 sends)
        ]
        is_first (suc k) none h = absurd (omega (arith, none))

        is_later : (k : ℕ) → 1 ≤ k → FailedSoFar c b.question (t ∷ past) k → FailsAsk c b.question t past
        is_later zero some h = absurd (omega (arith, some))
        is_later (suc k) some h = elim h.1 [
          | inl newest ↦ newest.0
          | inr left ↦ absurd (left.0.1 sends)
        ]

        group : (r : Route) × (group_of c b.route ≡ Some r) × (slice_get r.servers b.server ≡ Some b.peer)
        group = group_there (group_of c b.route) b.server b.peer tried.server

        takes : TakesTurn c t past was.places b.server (sent b)
        takes = record {
          question = b.question;
          reads = tried.reads;
          route = b.route;
          group = group.0;
          route_is = serves_exactly.only c b.question.name b.route tried.on_route;
          there = group.1;
          server = group.2;
          turn = by turn;
        }
          where
            by : IsFirst c past w s x now words unkept more preferred b
                ⊎ IsNext c past w s x now words unkept more (BringsCut c t past) b
                → AsksFirst c t past was.places b.server b.path b.question b.route
                ⊎ AsksNext c t past was.places b.server b.path b.question (length group.0.servers)
            by (inl first) = inl (record {
              begins = is_first tried.before
                  (let one = first.used in let own = tried.used in omega (arith, one, own)) tried.failed;
              by_udp = first.by_udp;
              preferred = subst (IsPreferred c b.route (t ∷ past) (b.server ∷ was.places)) (sym first.server)
                  (prefers b.server b.route);
            })
            by (inr next) = inr (record {
              fails = is_later tried.before
                  (let later = next.used in
                  let own = tried.used in
                  let old = (ask_on-is (Tried c past) next.failed.path s.asks next.failed next.on x.tried).1.used in
                  omega (arith, later, own, old)) tried.failed;
              failed = next.failed.server;
              at = subst (λ (q : Question). AskedAt q past was.places next.failed.server) (sym next.question)
                  (ask_on-is (λ a. AskedAt a.question past was.places a.server) next.failed.path s.asks next.failed
                  next.on was.asked).1;
              turn = elim next.turn [
                | inl cut ↦ inl cut
                | inr uncut ↦ inr (
                  uncut.0,
                  uncut.1,
                  uncut.2
                      ∙ ap (λ (o : Option Route). (next.failed.server + 1) % length (servers_in o)) group.1,
                )
              ];
            })

        sends_one : HasTurns c (t ∷ past) d.state
        sends_one = record {
          places = b.server ∷ was.places;
          turns = (
            was.turns,
            subst (AllByRecursion (λ a. TakesItsTurn c t past was.places b.server (ask_in a))) (sym actions)
                (each_settled (TakesItsTurn c t past was.places b.server) tt close fates (Some b) speak takes),
          );
          asked = subst (AllByRecursion (λ a. AskedAt a.question (t ∷ past) (b.server ∷ was.places) a.server)) (sym asks_are)
              (All-append (λ a. AskedAt a.question (t ∷ past) (b.server ∷ was.places) a.server) kept (b ∷ [])
              (still_asked b.server kept others kept_asked) (inl (sends, refl), tt));
          prefers = prefers_now b.server;
        }

      moved : (next : Option Ask) → d.actions ≡ closing close ++ (replies fates ++ map asks (ask_list next))
          → d.state.asks ≡ kept ++ ask_list next
          → NextHas (λ b. IsFirst c past w s x now words unkept more preferred b
          ⊎ IsNext c past w s x now words unkept more (BringsCut c t past) b) next
          → HasTurns c (t ∷ past) d.state
      moved None actions asks_are turn = sends_none actions asks_are
      moved (Some b) actions asks_are turn = sends_one b actions asks_are turn

  moves : (e : Event) (d : Done) (w' : List (List ℕ)) → Explains c (told e d ∷ past) w' d.state → (preferred : List ℕ)
      → Moves c past w s x now words unkept more e preferred d
      → ((place route : ℕ) → IsPreferred c route (told e d ∷ past) (place ∷ was.places) (get_or preferred route 0))
      → HasTurns c (told e d ∷ past) d.state
  moves e d w' x' preferred m prefers =
      moved e d w' x' preferred m.close m.fates m.speak m.preferred_are prefers m.next m.actions m.asks_are m.turn

  -- ---- the preferred servers

  still_preferred : (e : Event) (d : Done) → is_restart (told e d) ≡ false
      → ((pieces servers : List Piece) → Accepts c (told e d) past pieces servers → ⊥)
      → (place route : ℕ) → IsPreferred c route (told e d ∷ past) (place ∷ was.places) (get_or s.preferred route 0)
  still_preferred e d runs none place route = inr (inr (runs, (λ ps ss k on. none ps ss k), was.prefers route))

  quietly : (e : Event) (d : Done) (w' : List (List ℕ)) → Explains c (told e d ∷ past) w' d.state
      → is_restart (told e d) ≡ false → ((pieces servers : List Piece) → Accepts c (told e d) past pieces servers → ⊥)
      → Moves c past w s x now words unkept more e s.preferred d → HasTurns c (told e d ∷ past) d.state
  quietly e d w' x' runs none m = moves e d w' x' s.preferred m (still_preferred e d runs none)

  -- ---- a delivery

  module _ (path : Path) (from : Peer) (octets : List ℕ) (rooms : List Bool) (are : AreOctets octets) (d : Done) where
    abbrev step : Step
    step = told (delivery path from octets) d

    abbrev Heard : Type 0
    Heard = IsHeard c past w s x now words unkept more path from octets rooms are

    abbrev carried : (pieces servers : List Piece) → Accepts c step past pieces servers → Carries c step past (pieces ++ servers)
    carried pieces servers k = record { pieces = pieces; servers = servers; accepts = k; are = refl }

    abbrev heard_by : (pieces servers : List Piece) → Accepts c step past pieces servers → Heard
    heard_by pieces servers k =
        heard c past w s x now words unkept more path from octets rooms are d.actions (pieces ++ servers)
        (carried pieces servers k)

    module _ (h : Heard) where
      tried_heard : Tried c past h.ask
      tried_heard = (ask_on-is (Tried c past) path s.asks h.ask h.on x.tried).1

      -- the route of the accepted question is the ask's
      route_is : (pieces servers : List Piece) (k : Accepts c step past pieces servers) → k.asked ≡ h.ask.question
          → k.route ≡ h.ask.route
      route_is pieces servers k asked =
          let two : Some k.route ≡ Some h.ask.route = sym (serves_exactly.each c k.asked.name k.route x.config.differ k.route_is)
          ∙ ap (λ (q : Question). serving_route_of c q.name) asked ∙ tried_heard.on_route in
          let same : k.route ≡ h.ask.route = cc in
          same

      abbrev walk : Walk
      walk = walk_of c h.message h.ask.question h.ask.route

      accepted : Carries c step past (walk.pieces ++ walk.authority)
      accepted = carries c past w s x now words unkept more path from octets rooms are h.ask h.on h.message h.live h.whole
          h.read h.fine d.actions

      accepted_asked : accepted.accepts.asked ≡ h.ask.question
      unfolding accepted
      accepted_asked = carries_asked c past w s x now words unkept more path from octets rooms are h.ask h.on h.message
          h.live h.whole h.read h.fine d.actions

      within : h.ask.route < length s.preferred
      within =
          let there = group_there (group_of c h.ask.route) h.ask.server h.ask.peer tried_heard.server in
          let less = slice_get_within c.routes h.ask.route there.0 there.1 in
          let many = as_many c.routes s.preferred x.preferred in
          omega (arith, less, many)

      prefers : (place route : ℕ)
          → IsPreferred c route (step ∷ past) (place ∷ was.places) (get_or (slice_set s.preferred h.ask.route h.ask.server) route 0)
      prefers place route = by (route == h.ask.route) refl
        where
          by : (v : Bool) → (route == h.ask.route) ≡ v
              → IsPreferred c route (step ∷ past) (place ∷ was.places)
              (get_or (slice_set s.preferred h.ask.route h.ask.server) route 0)
          by true same =
              let is : route ≡ h.ask.route = eqb-true route h.ask.route same in
              inr (inl (record {
                pieces = accepted.pieces;
                servers = accepted.servers;
                accepts = accepted.accepts;
                on_route = route_is accepted.pieces accepted.servers accepted.accepts accepted_asked ∙ sym is;
                asked = subst (λ (z : Question × ℕ). AskedAt z.0 past was.places z.1)
                    (λ i. (
                      sym accepted_asked i,
                      sym (ap (λ (k : ℕ). get_or (slice_set s.preferred h.ask.route h.ask.server) k 0) is
                          ∙ get_or-set_same s.preferred h.ask.route h.ask.server 0 within) i,
                    ))
                    (ask_on-is (λ a. AskedAt a.question past was.places a.server) path s.asks h.ask h.on was.asked).1;
              }))
          by false other =
              let apart : (route ≡ h.ask.route → ⊥) = eqb-false route h.ask.route other in
              inr (inr (
                refl,
                (λ ps ss k on. apart (sym on ∙ route_is ps ss k (asked_is ps ss k))),
                subst (IsPreferred c route past was.places)
                    (sym (get_or-set_other s.preferred h.ask.route route h.ask.server 0 apart)) (was.prefers route),
              ))
            where
              asked_is : (pieces servers : List Piece) (k : Accepts c step past pieces servers) → k.asked ≡ h.ask.question
              asked_is ps ss k =
                  let g : Heard = heard_by ps ss k in
                  let one : Some g.ask ≡ Some h.ask = sym g.on ∙ h.on in
                  let same : g.ask ≡ h.ask = cc in
                  sym (heard_asked c past w s x now words unkept more path from octets rooms are d.actions (ps ++ ss)
                  (carried ps ss k)) ∙ g.asked_is ∙ ap (λ (a : Ask). a.question) same

    delivered : (w' : List (List ℕ)) → Explains c (step ∷ past) w' d.state
        → MovesBy c past w s x now words unkept more path from octets rooms are d → HasTurns c (step ∷ past) d.state
    delivered w' x' (inl accepted) = moves (delivery path from octets) d w' x'
        (slice_set s.preferred accepted.0.ask.route accepted.0.ask.server) accepted.1 (prefers accepted.0)
    delivered w' x' (inr unheard) = quietly (delivery path from octets) d w' x' refl
        (λ ps ss k. unheard.0 (heard_by ps ss k)) unheard.1

  -- ---- each event

  none_accepted : (e : Event) (d : Done) → Rattle.step_values.specs.Values.delivery_in e ≡ None
      → (pieces servers : List Piece) → Accepts c (told e d) past pieces servers → ⊥
  none_accepted e d none pieces servers k = not_delivered (sym none ∙ k.matches.delivered)

  pub turns_after : (e : Event) → HandsOctets e → (d : Done) → Happens (start c n words s) e d → (w' : List (List ℕ))
      → Explains c (told e d ∷ past) w' d.state → HasTurns c (told e d ∷ past) d.state
  turns_after (from_client client octets) are d h w' x' = quietly (from_client client octets) d w' x' refl
      (none_accepted (from_client client octets) d refl)
      (subst (Moves c past w s x now words unkept more (from_client client octets) s.preferred) (sym h)
      (request_row c past w s x now words unkept more client octets))
  turns_after (delivery path from octets) are d h w' x' = delivered path from octets h.0 are d w' x'
      (subst (MovesBy c past w s x now words unkept more path from octets h.0 are) (sym h.1)
      (delivery_row c past w s x now words unkept more path from octets h.0 are (ask_on path s.asks) refl))
  turns_after (path_failed path) are d h w' x' = quietly (path_failed path) d w' x' refl
      (none_accepted (path_failed path) d refl)
      (subst (Moves c past w s x now words unkept more (path_failed path) s.preferred) (sym h)
      (path_row c past w s x now words unkept more path (ask_on path s.asks) refl))
  turns_after tick are d h w' x' = quietly tick d w' x' refl (none_accepted tick d refl)
      (subst (Moves c past w s x now words unkept more tick s.preferred) (sym h)
      (tick_row c past w s x now words unkept more))
  turns_after restart are d h w' x' = record {
    places = 0 ∷ was.places;
    turns = (
      was.turns,
      subst (λ (z : Done). AllByRecursion (λ a. TakesItsTurn c (told restart d) past was.places 0 (ask_in a)) z.actions)
          (sym h) tt,
    );
    asked = subst (λ (z : Done). AllByRecursion
        (λ a. AskedAt a.question (told restart d ∷ past) (0 ∷ was.places) a.server) z.state.asks) (sym h) tt;
    prefers = λ route. inl (refl, ap (λ (z : Done). preferred_on z.state route) h ∙ first_places c.routes route);
  }

pub first_turns : (c : Config) → HasTurns c [] (initial c)
first_turns c = record { places = []; turns = tt; asked = tt; prefers = λ route. first_places c.routes route }
