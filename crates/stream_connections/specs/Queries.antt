-- Queries on connections to servers.
use Rattle.std.specs.Prelude.{◌≡◌, ℕ, ◌<◌, ◌≤◌, List, length, Result}
use Rattle.std.specs.declared.io.Error.{Error}
use Rattle.suffix_routes.specs.declared.peer.Peer.{Peer}
use Rattle.system_calls.specs.Call.{Call}
use Rattle.system_calls.specs.declared.sockets.Stream.{Stream}
use Rattle.tcp_frames.specs.Frames.{framed}
use Rattle.tcp_frames.specs.Unsent.{Keeping}
use Rattle.stream_connections.specs.Streams.{HearsAfter, Offers}
use Rattle.stream_connections.specs.declared.answers.Heard.{Heard}
use Rattle.stream_connections.specs.declared.answers.Heard.TheVariants.{Octets, Nothing, Done, Failed}
use Rattle.stream_connections.specs.declared.servers.ServerStream.{ServerStream}

-- A connection to this server is begun, on this stream, with the frame of the query to send.
pub record IsBegunWith {A : Type 0} (begun : Stream) (server : Peer) (query : List ℕ) (stream : ServerStream A)
    : Type 0 where
  pub on : stream.stream ≡ begun
  pub to : stream.server ≡ server
  pub unsent : stream.unsent ≡ record { left = framed query; taken = 0 }

-- The octets heard, at least one, are in the buffer.
abbrev pub IsWithin : Heard → (buffer : List ℕ) → Type 0
IsWithin (Octets count) buffer = (0 < count) × (count ≤ length buffer)
IsWithin Nothing buffer = Unit {0}
IsWithin Done buffer = Unit {0}
IsWithin Failed buffer = Unit {0}

-- Serving a connection: the rest of the query is offered, if any, and then the stream is read.
pub record ServesQuery {A : Type 0} (heard : Heard) (buffer : List ℕ) (calls calls' : List Call)
    (before after : ServerStream A) : Type 0 where
  pub taken : Result ℕ Error
  pub unsent : Keeping
  pub between : List Call
  pub offers : Offers before.stream before.unsent taken unsent calls between
  pub hears : HearsAfter taken before.stream buffer heard between calls'
  pub rest : after ≡ record before { unsent = unsent }
