use Rattle.std.proofs.Common.{ap, sym, subst}
use Rattle.std.proofs.lemmas.List.Elements.{All-nil}
use Rattle.outstanding.specs.Values.{Ask}
use Rattle.outstanding.specs.Orders.{path_number, question_key}
use Rattle.outstanding.specs.Tables.{keys_of, AreNumbered}
use Rattle.outstanding.proofs.Indexed.{none_indexed}
use Rattle.outstanding.proofs.table.Table.new.Goals as goal

pub returns-clause-indexed : goal.returns-clause-indexed
returns-clause-indexed g c = record {
  keys = none_indexed c.new.result (keys_of c.new-2.result.items) (keys_of c.new-3.result.items) c.new-4.result.keys c.new.ensures.empty (ap keys_of c.new-2.ensures.items) (ap keys_of c.new-3.ensures.items) c.new-4.ensures;
  path_numbers = subst (AreNumbered (λ (a : Ask). path_number a.path) c.new.result) (sym c.new-2.ensures.items) (All-nil _);
  question_numbers = subst (AreNumbered (λ (a : Ask). (question_key a.question).number) c.new.result) (sym c.new-3.ensures.items) (All-nil _);
}
