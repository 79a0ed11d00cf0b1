use Rattle.std.proofs.Common.{sym, ap, subst, arith}
use Rattle.waiting_questions.specs.Indexes.{keys_of, AreNumbered}
use Rattle.waiting_questions.proofs.Indexed.{none_indexed}
use Rattle.waiting_questions.proofs.table.Table.new.Goals as goal

pub returns-clause-indexed : goal.returns-clause-indexed
returns-clause-indexed g c = record {
  lists = none_indexed c.new.result _ c.new-3.result.keys (ap keys_of c.new-2.ensures.items) c.new-3.ensures;
  numbers = subst (AreNumbered c.new.result) (sym c.new-2.ensures.items) (λ k d within. absurd (omega arith));
}
