use Rattle.std.proofs.Common.{◌≡◌, ◌++◌, length}
use Rattle.dns_message.specs.Messages.{AreShaped}
use Rattle.trust_rank.specs.Walks.{servers_from}
use Rattle.trust_rank.proofs.servers.servers_beside.Given as goal

abbrev pub invariant-loop-first : goal.invariant-loop-first
invariant-loop-first g l = record {
  shaped : AreShaped l.rest;
  left : l.sets ++ servers_from l.reply (l.pieces ++ l.sets) l.rest ≡ servers_from l.reply l.pieces l.reply.authority;
}

abbrev pub decreases-loop-first : goal.decreases-loop-first
decreases-loop-first g l = length l.rest
