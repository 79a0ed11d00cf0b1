use Rattle.std.proofs.Common.{◌∙◌, sym, rules}
use Rattle.outstanding.specs.Orders.{key_cmp}
use Rattle.outstanding.specs.contracts.keyed.QuestionKeyOrd.TheImpl.Laws as key_laws
use Rattle.outstanding.proofs.SameOrders.{equal_from}
use Rattle.outstanding.proofs.keyed.QuestionKey.compare.Goals as goal

pub returns-then-eq : goal.returns-then-eq
returns-then-eq c = sym (equal_from (key_cmp c.args.self.now c.args.other.now) (sym (key_laws.matches_eq-law c.args.self.now c.args.other.now) ∙ sym c.eq.ensures ∙ c.if-eq.true))

pub returns-then-self-other : goal.returns-then-self-other
returns-then-self-other c = search rules
