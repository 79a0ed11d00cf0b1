use Rattle.socket_wire.specs.Trying.{TriesServer}
use Rattle.socket_wire.proofs.Tries.{TriesAll}
use Rattle.socket_wire.proofs.sockets.Sockets.try_servers.Given as goal

-- the tries left yield the result of all tries
abbrev pub invariant-loop-tried : goal.invariant-loop-tried
invariant-loop-tried g l = TriesAll TriesServer 20 l._tried l.fn.self l.self
