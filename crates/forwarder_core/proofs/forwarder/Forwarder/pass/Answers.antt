use Rattle.std.proofs.Common.{◌≤◌, sym, subst}
use Rattle.step_table.specs.State.{Running}
use Rattle.client_decisions.proofs.StepActions.CallerLemmas.{kept_later}
use Rattle.forwarder_core.proofs.forwarder.Forwarder.pass.Goals as goal

pub invariant_of-self : goal.invariant_of-self
invariant_of-self g c =
    kept_later c.self.inside.config c.self.inside.kept.cache c.self.inside.kept.inquiries c.self.inside.kept.waiting.items c.self.inside.kept.preferred.items c.self.inside.kept.moment c.args.moment c.self.inside.kept.tcp_asks c.self.invariant
    (subst (λ (r : Running). r.state.moment ≤ c.args.moment) (sym c.self.view_is) c.requires.later) c.requires.in_time
