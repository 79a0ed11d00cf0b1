-- The room for a call: a descriptor that was freed for it, and the room to report an end.
use Rattle.std.proofs.Common.{◌≡◌, ℕ, ap, subst, ◌∙◌, List, Bool, true}
use Rattle.std.specs.Prelude.{Result}
use Rattle.std.specs.declared.io.Error.{Error}
use Rattle.suffix_routes.specs.declared.peer.Peer.{Peer}
use Rattle.stream_connections.specs.Open.{Connections}
use Rattle.stream_connections.specs.declared.servers.ServerStream.{ServerStream}
use Rattle.socket_wire.specs.Arriving.{FreesBy}
use Rattle.socket_wire.specs.Putting.{BeginsWithRoom, with_room}
use Rattle.socket_wire.specs.Seen.{SeenSockets}

-- A descriptor was freed, or not, by sockets that differ in their calls alone.
pub freed_by : {A T : Type 0} (first : Result T Error) (now : ℕ) (answer is_freed : Bool)
    (before between freed : SeenSockets A) → between ≡ record before { calls = between.calls }
    → answer ≡ is_freed → FreesBy first now answer between freed
    → FreesBy first now is_freed (record before { calls = between.calls }) freed
freed_by first now answer is_freed before between freed rest is frees =
    subst (λ sockets. FreesBy first now is_freed sockets freed) rest
    (subst (λ is_freed. FreesBy first now is_freed between freed) is frees)

-- A connection is begun with room to report its end, by sockets seen as these.
pub begun_in_room : {A : Type 0} (conn : ℕ) (server : Peer) (query : List ℕ) (now : ℕ)
    (result begun : Result (ServerStream A) Error) (seen before between : SeenSockets A)
    (connections : Connections A) → result ≡ begun → seen ≡ before
    → connections ≡ record seen.connections { has_room = connections.has_room }
    → connections.has_room ≡ true
    → BeginsWithRoom conn server query now result (record seen { connections = connections }) between
    → BeginsWithRoom conn server query now begun (with_room true before) between
begun_in_room conn server query now result begun seen before between connections is seen_is rest room begins =
    let kept : record seen { connections = connections } ≡ with_room true before =
    ap (λ (k : Connections _). record seen { connections = k })
    (rest ∙ ap (λ (has_room : Bool). record seen.connections { has_room = has_room }) room)
    ∙ ap (λ (s : SeenSockets _). with_room true s) seen_is in
    subst (λ b. BeginsWithRoom conn server query now b (with_room true before) between) is
    (subst (λ s. BeginsWithRoom conn server query now result s between) kept begins)
