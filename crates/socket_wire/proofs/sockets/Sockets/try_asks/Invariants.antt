use Rattle.socket_wire.specs.Trying.{TriesAsk}
use Rattle.socket_wire.proofs.Tries.{TriesAll}
use Rattle.socket_wire.proofs.sockets.Sockets.try_asks.Given as goal

-- the tries left yield the result of all tries
abbrev pub invariant-loop-tried : goal.invariant-loop-tried
invariant-loop-tried g l = TriesAll TriesAsk 20 l._tried l.fn.self l.self
