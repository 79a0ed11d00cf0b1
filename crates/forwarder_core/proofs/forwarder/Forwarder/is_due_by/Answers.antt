use Rattle.std.proofs.Common.{sym}
use Rattle.forwarder_core.proofs.KeptLaws.{none_due}
use Rattle.forwarder_core.proofs.forwarder.Forwarder.is_due_by.Goals as goal

pub returns-in-Some : goal.returns-in-Some
returns-in-Some g c = sym (c.in-Some.ensures.due c.args.moment)

pub returns-in-None : goal.returns-in-None
returns-in-None g c =
    sym (none_due c.args.self.now.config c.args.moment c.args.self.now.state c.in-None.ensures.0 c.in-None.ensures.1)
