use Rattle.std.proofs.Common.{◌≡◌}
use Rattle.stream_connections.specs.Listed.{first_idle}
use Rattle.stream_connections.proofs.clients.Clients.oldest_idle.Given as goal

-- no client before is idle
abbrev pub invariant-loop-conn : goal.invariant-loop-conn
invariant-loop-conn g l = first_idle l.conn-iterator ≡ first_idle l.self
