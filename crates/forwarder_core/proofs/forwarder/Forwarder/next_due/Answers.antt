use Rattle.std.proofs.Common.{sym}
use Rattle.forwarder_core.proofs.KeptLaws.{none_next}
use Rattle.forwarder_core.proofs.forwarder.Forwarder.next_due.Goals as goal

pub returns-in-Some : goal.returns-in-Some
returns-in-Some g c = sym c.in-Some.ensures.next

pub returns-in-None : goal.returns-in-None
returns-in-None g c = sym (none_next c.args.self.now.config c.args.self.now.state c.in-None.ensures.0 c.in-None.ensures.1)
