-- Asks, and the list of them.
use Rattle.std.specs.Prelude.{ℕ, List}
use Rattle.dns_message.specs.Values.{Question}
use Rattle.suffix_routes.specs.declared.peer.Peer.{Peer}
use Rattle.outstanding.specs.declared.ask.Path.{Path}

-- a question, sent to a server
pub record Ask : Type 0 where
  pub question : Question
  pub route : ℕ
  pub server : ℕ  -- its place among the servers of the route, from 0
  pub peer : Peer  -- that server
  pub used : ℕ  -- the tries of the inquiry, with this one
  pub path : Path
  pub id : ℕ
  pub asked : ℕ  -- the moment, in milliseconds

-- the listed asks in the order of asking, and the largest allowed number of asks
pub record Inquiries : Type 0 where
  pub capacity : ℕ
  pub asks : List Ask
