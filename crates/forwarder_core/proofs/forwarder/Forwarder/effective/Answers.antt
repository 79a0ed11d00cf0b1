use Rattle.std.proofs.Common.{subst}
use Rattle.step_table.specs.State.{Running}
use Rattle.step_table.specs.Progress.{IsInOrder}
use Rattle.forwarder_core.proofs.KeptLaws.{kept_in_order}
use Rattle.forwarder_core.proofs.forwarder.Forwarder.effective.Goals as goal

pub returns-clause-in_order : goal.returns-clause-in_order
returns-clause-in_order g c =
    subst (λ (r : Running). IsInOrder r.config r.state) c.self.view_is
    (kept_in_order c.self.inside.config c.self.inside.kept.cache c.self.inside.kept.inquiries c.self.inside.kept.waiting.items c.self.inside.kept.preferred.items c.self.inside.kept.moment c.self.inside.kept.tcp_asks c.self.invariant)
