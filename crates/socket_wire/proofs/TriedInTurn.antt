-- The laws of walks, for sockets changed by tries: a socket staying listed is tried, and a socket
-- staying noted is given.
use Rattle.std.proofs.Common.{◌≡◌, ap, sym, ◌∙◌, subst, ℕ, zero, suc, ◌+◌, ◌-◌, ◌^◌, ◌<◌, ◌≤◌}
use Rattle.std.proofs.Common.{inl, inr}
use Rattle.std.proofs.Common.{List, length, Bool, Option, Some, arith, ◌*◌}
use Rattle.std.specs.Map.{keys_of}
use Rattle.std.specs.Prelude.{unwrap_or}
use Rattle.ready_sockets.specs.declared.origin.Origin.{Origin}
use Rattle.ready_sockets.specs.declared.readiness.Tokens.{Tokens}
use Rattle.socket_wire.specs.Seen.{SeenSockets}
use Rattle.socket_wire.specs.InTurn.{IsGivenWithin, IsTriedWithin, StaysListed}
use Rattle.stream_connections.specs.Listed.{first_number}
use Rattle.ready_sockets.specs.Trying.{Gives, next_token}
use Rattle.ready_sockets.specs.Tokens.{HasToken, token_of}
use Rattle.socket_wire.specs.Trying.{TriesAsk, TriesClient, TriesServer, TriesUpTo, ask_in_turn}
use Rattle.socket_wire.specs.Trying.{client_in_turn}
use Rattle.socket_wire.specs.Trying.{next_from, server_in_turn}
use Rattle.socket_wire.proofs.InTurn.{given_within, tried_within}
use Rattle.socket_wire.proofs.TriedInSweeps.{FindsIn, TriesTo, found_in_sweeps}

-- A number found within `tries` tries is found at one of them.
pub tried_at : {X : Type 0} (tries size number : ℕ) (listed : ℕ → List (ℕ × X)) (from : ℕ → ℕ)
    → ((try : ℕ) → from (try + 1) ≡ next_from size (first_number (from try) (listed try)))
    → IsTriedWithin tries size number (from 0) listed
    → (try : ℕ) × ((try < tries) × (first_number (from try) (listed try) ≡ Some number))
tried_at zero size number listed from goes within = absurd within
tried_at (suc tries) size number listed from goes (inl is) = (0, (omega arith, is))
tried_at {X} (suc tries) size number listed from goes (inr later) =
    let rest = λ (try : ℕ). listed (try + 1) in
    let behind : IsTriedWithin tries size number (from 1) rest =
    subst (λ begin. IsTriedWithin {X = X} tries size number begin rest) (sym (goes 0)) later
    in
    let found = tried_at tries size number rest (λ try. from (try + 1)) (λ try. goes (try + 1))
    behind in
    (found.0 + 1, (omega arith, found.1.1))

pub given_at : (turns token : ℕ) (tokens : ℕ → List ℕ) (last : ℕ → ℕ)
    → ((turn : ℕ) → last (turn + 1) ≡ unwrap_or (next_token (last turn) (tokens turn)) (last turn))
    → IsGivenWithin turns token (last 0) tokens
    → (turn : ℕ) × ((turn < turns) × (next_token (last turn) (tokens turn) ≡ Some token))
given_at zero token tokens last goes within = absurd within
given_at (suc turns) token tokens last goes (inl is) = (0, (omega arith, is))
given_at (suc turns) token tokens last goes (inr later) =
    let rest = λ (turn : ℕ). tokens (turn + 1) in
    let behind : IsGivenWithin turns token (last 1) rest =
    subst (λ begin. IsGivenWithin turns token begin rest) (sym (goes 0)) later
    in
    let found = given_at turns token rest (λ turn. last (turn + 1)) (λ turn. goes (turn + 1)) behind
    in
    (found.0 + 1, (omega arith, found.1.1))

module _ {A : Type 0} where
  -- The port of an ask staying listed is tried within one try more than the count of ports ever
  -- listed meanwhile.
  pub ask_is_tried : (tries port : ℕ) (ever : List ℕ) (found : ℕ → Bool)
      (before after : ℕ → SeenSockets A)
      → ((try : ℕ) → TriesAsk (found try) (before try) (after try))
      → ((try : ℕ) → (before (try + 1)).next_ask ≡ (after try).next_ask)
      → ((try : ℕ) → StaysListed (2 ^ 16) port ever (keys_of (before try).asks.listed))
      → length ever + 1 ≤ tries
      → (try : ℕ) × ((try < tries) × (ask_in_turn (before try) ≡ Some port))
  ask_is_tried tries port ever found before after one next listed enough =
      tried_at tries (2 ^ 16) port (λ try. (before try).asks.listed) (λ try. (before try).next_ask)
      (λ try. next try ∙ (one try).next)
      (tried_within tries (2 ^ 16) port (before 0).next_ask ever (λ try. (before try).asks.listed)
      listed enough)

  -- The connection of an ask is tried.
  pub server_is_tried : (tries conn : ℕ) (ever : List ℕ) (found : ℕ → Bool)
      (before after : ℕ → SeenSockets A)
      → ((try : ℕ) → TriesServer (found try) (before try) (after try))
      → ((try : ℕ) → (before (try + 1)).next_server ≡ (after try).next_server)
      → ((try : ℕ) → StaysListed (2 ^ 64) conn ever (keys_of (before try).connections.servers))
      → length ever + 1 ≤ tries
      → (try : ℕ) × ((try < tries) × (server_in_turn (before try) ≡ Some conn))
  server_is_tried tries conn ever found before after one next listed enough =
      tried_at tries (2 ^ 64) conn (λ try. (before try).connections.servers)
      (λ try. (before try).next_server)
      (λ try. next try ∙ (one try).next)
      (tried_within tries (2 ^ 64) conn (before 0).next_server ever
      (λ try. (before try).connections.servers) listed
      enough)

  -- A client is tried.
  pub client_is_tried : (tries conn : ℕ) (ever : List ℕ) (found : ℕ → Bool)
      (before after : ℕ → SeenSockets A)
      → ((try : ℕ) → TriesClient (found try) (before try) (after try))
      → ((try : ℕ) → (before (try + 1)).next_client ≡ (after try).next_client)
      → ((try : ℕ) → StaysListed (2 ^ 64) conn ever (keys_of (before try).connections.clients))
      → length ever + 1 ≤ tries
      → (try : ℕ) × ((try < tries) × (client_in_turn (before try) ≡ Some conn))
  client_is_tried tries conn ever found before after one next listed enough =
      tried_at tries (2 ^ 64) conn (λ try. (before try).connections.clients)
      (λ try. (before try).next_client)
      (λ try. next try ∙ (one try).next)
      (tried_within tries (2 ^ 64) conn (before 0).next_client ever
      (λ try. (before try).connections.clients) listed
      enough)

  -- ---- in sweeps of twenty tries

  asks_stay : (done : ℕ) (before at : SeenSockets A)
      → TriesTo TriesAsk done before at
      → keys_of at.asks.listed ≡ keys_of before.asks.listed
  unfolding TriesTo
  asks_stay zero before at same = ap (λ (s : SeenSockets A). keys_of s.asks.listed)
      same
  asks_stay (suc done) before at later =
      asks_stay done later.0 at later.1.1
      ∙ ap (λ (s : SeenSockets A). keys_of s.asks.listed) later.1.0.rest

  servers_stay : (done : ℕ) (before at : SeenSockets A)
      → TriesTo TriesServer done before at
      → keys_of at.connections.servers ≡ keys_of before.connections.servers
  unfolding TriesTo
  servers_stay zero before at same = ap
      (λ (s : SeenSockets A). keys_of s.connections.servers) same
  servers_stay (suc done) before at later =
      servers_stay done later.0 at later.1.1
      ∙ ap (λ (s : SeenSockets A). keys_of s.connections.servers) later.1.0.rest

  clients_stay : (done : ℕ) (before at : SeenSockets A)
      → TriesTo TriesClient done before at
      → keys_of at.connections.clients ≡ keys_of before.connections.clients
  unfolding TriesTo
  clients_stay zero before at same = ap
      (λ (s : SeenSockets A). keys_of s.connections.clients) same
  clients_stay (suc done) before at later =
      clients_stay done later.0 at later.1.1
      ∙ ap (λ (s : SeenSockets A). keys_of s.connections.clients) later.1.0.rest

  -- The port is found in a sweep of twenty tries.
  abbrev pub FindsAsk : (port : ℕ) → (ever : List ℕ) → SeenSockets A → Type 0
  FindsAsk port ever before = FindsIn TriesAsk (2 ^ 16) port (λ s. s.next_ask) (λ s. s.asks.listed)
      ever 20 before

  abbrev pub FindsServer : (conn : ℕ) → (ever : List ℕ) → SeenSockets A → Type 0
  FindsServer conn ever before =
      FindsIn TriesServer (2 ^ 64) conn (λ s. s.next_server) (λ s. s.connections.servers) ever 20
      before

  -- The port of an ask staying listed is tried within enough sweeps for a try of each port ever
  -- listed meanwhile, and one sweep more.
  pub ask_is_tried_in_sweeps : (sweeps port : ℕ) (ever : List ℕ)
      (before after : ℕ → SeenSockets A)
      → ((sweep : ℕ) → TriesUpTo TriesAsk 20 (before sweep) (after sweep))
      → ((sweep : ℕ) → (before (sweep + 1)).next_ask ≡ (after sweep).next_ask)
      → ((sweep : ℕ) → StaysListed (2 ^ 16) port ever (keys_of (before sweep).asks.listed))
      → length ever + 20 ≤ 20 * sweeps
      → (sweep : ℕ) × ((sweep < sweeps) × FindsAsk port ever (before sweep))
  ask_is_tried_in_sweeps sweeps port ever before after one between listed enough =
      found_in_sweeps TriesAsk (2 ^ 16) port (λ s. s.next_ask) (λ s. s.asks.listed) ever sweeps 20
      before after
      (record { report = λ found s s' try. try.one; next = λ found s s' try. try.next }) one between
      (λ sweep done at reached.
      subst (StaysListed (2 ^ 16) port ever) (sym (asks_stay done (before sweep) at reached))
      (listed sweep))
      enough

  -- The connection of an ask is tried within the sweeps.
  pub server_is_tried_in_sweeps : (sweeps conn : ℕ) (ever : List ℕ)
      (before after : ℕ → SeenSockets A)
      → ((sweep : ℕ) → TriesUpTo TriesServer 20 (before sweep) (after sweep))
      → ((sweep : ℕ) → (before (sweep + 1)).next_server ≡ (after sweep).next_server)
      → ((sweep : ℕ) → StaysListed (2 ^ 64) conn ever (keys_of (before sweep).connections.servers))
      → length ever + 20 ≤ 20 * sweeps
      → (sweep : ℕ) × ((sweep < sweeps) × FindsServer conn ever (before sweep))
  server_is_tried_in_sweeps sweeps conn ever before after one between listed enough =
      found_in_sweeps TriesServer (2 ^ 64) conn (λ s. s.next_server) (λ s. s.connections.servers)
      ever sweeps 20 before
      after (record { report = λ found s s' try. try.one; next = λ found s s' try. try.next }) one
      between
      (λ sweep done at reached.
      subst (StaysListed (2 ^ 64) conn ever) (sym (servers_stay done (before sweep) at reached))
      (listed sweep))
      enough

  abbrev pub FindsClient : (conn : ℕ) → (ever : List ℕ) → SeenSockets A → Type 0
  FindsClient conn ever before =
      FindsIn TriesClient (2 ^ 64) conn (λ s. s.next_client) (λ s. s.connections.clients) ever 20
      before

  -- A client is tried within the sweeps.
  pub client_is_tried_in_sweeps : (sweeps conn : ℕ) (ever : List ℕ)
      (before after : ℕ → SeenSockets A)
      → ((sweep : ℕ) → TriesUpTo TriesClient 20 (before sweep) (after sweep))
      → ((sweep : ℕ) → (before (sweep + 1)).next_client ≡ (after sweep).next_client)
      → ((sweep : ℕ) → StaysListed (2 ^ 64) conn ever (keys_of (before sweep).connections.clients))
      → length ever + 20 ≤ 20 * sweeps
      → (sweep : ℕ) × ((sweep < sweeps) × FindsClient conn ever (before sweep))
  client_is_tried_in_sweeps sweeps conn ever before after one between listed enough =
      found_in_sweeps TriesClient (2 ^ 64) conn (λ s. s.next_client) (λ s. s.connections.clients)
      ever sweeps 20 before
      after (record { report = λ found s s' try. try.one; next = λ found s s' try. try.next }) one
      between
      (λ sweep done at reached.
      subst (StaysListed (2 ^ 64) conn ever) (sym (clients_stay done (before sweep) at reached))
      (listed sweep))
      enough

-- A socket staying noted is given within as many turns of its sweep as sockets are ever noted
-- meanwhile.
pub socket_is_given : {A : Type 0} (turns : ℕ) (origin : Origin) (ever : List ℕ)
    (given : ℕ → Option Origin)
    (before after : ℕ → Tokens A) → HasToken origin
    → ((turn : ℕ) → Gives (given turn) (before turn) (after turn))
    → ((turn : ℕ) → (before (turn + 1)).last ≡ (after turn).last)
    → ((turn : ℕ) → StaysListed (2 ^ 64 - 1) (token_of origin) ever (before turn).tokens.keys)
    → length ever ≤ turns
    → (turn : ℕ) × ((turn < turns) × (given turn ≡ Some origin))
socket_is_given {A} turns origin ever given before after has one next listed enough =
    let found = given_at turns (token_of origin) (λ turn. (before turn).tokens.keys)
    (λ turn. (before turn).last)
    (λ turn. next turn ∙ ap (λ (sweep : Tokens A). sweep.last) (one turn).tried)
    (given_within turns (token_of origin) (before 0).last ever (λ turn. (before turn).tokens.keys)
    listed enough)
    in
    (found.0, (found.1.0, (one found.0).next origin has found.1.1))
