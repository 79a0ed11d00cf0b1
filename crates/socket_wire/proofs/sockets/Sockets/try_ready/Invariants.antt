use Rattle.socket_wire.proofs.Attempts.{ReadyAll}
use Rattle.socket_wire.proofs.sockets.Sockets.try_ready.Given as goal

-- the attempts left yield the result of all attempts
abbrev pub invariant-loop-tried : goal.invariant-loop-tried
invariant-loop-tried g l = ReadyAll 64 l._tried l.now l.fn.self l.self
