use Rattle.std.proofs.Common.{rules}
use Rattle.forwarder_core.proofs.forwarder.forget_all.Goals as goal

pub returns-clause-entries : goal.returns-clause-entries
returns-clause-entries g c = search rules
