use Rattle.std.proofs.Common.{◌≡◌}
use Rattle.stream_connections.specs.Listed.{first_resting}
use Rattle.stream_connections.proofs.clients.Clients.oldest_resting.Given as goal

-- no client before has been idle for a while
abbrev pub invariant-loop-conn : goal.invariant-loop-conn
invariant-loop-conn g l = first_resting l.now l.conn-iterator ≡ first_resting l.now l.self
