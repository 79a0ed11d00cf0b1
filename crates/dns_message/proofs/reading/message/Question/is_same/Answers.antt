use Rattle.std.proofs.Common.{arith}
use Rattle.std.proofs.lemmas.Grind.{common_steps}
use Rattle.dns_name.specs.Labels.{same}
use Rattle.dns_name.proofs.CallerLemmas.{same_decides, answer_is_test}
use Rattle.dns_message.proofs.reading.message.Question.is_same.Goals as goal

pub returns-then-self-other : goal.returns-then-self-other
returns-then-self-other g c =
    let named = answer_is_test c.same.result (same c.self.inside.name c.other.inside.name) c.same.ensures (same_decides c.self.inside.name c.other.inside.name) in
    rw (← c.self.view_is, ← c.other.view_is) (grind (arith, common_steps, named))

pub returns-else-self-other : goal.returns-else-self-other
returns-else-self-other g c =
    let named = answer_is_test c.same.result (same c.self.inside.name c.other.inside.name) c.same.ensures (same_decides c.self.inside.name c.other.inside.name) in
    rw (← c.self.view_is, ← c.other.view_is) (grind (arith, common_steps, named))
