use Rattle.std.proofs.Common.{◌≡◌, ◌++◌}
use Rattle.std.specs.Prelude.{map}
use Rattle.step_values.specs.Values.{actions_of}
use Rattle.step_table.specs.Steps.{replies}
use Rattle.reply_decisions.specs.Fates.{fate_now, onward_of}
use Rattle.reply_decisions.proofs.fates.Fates.into_parts.Given as goal

abbrev pub invariant-loop-fate : goal.invariant-loop-fate
invariant-loop-fate g l = record {
  used : l.used ≡ l.initial.used;
  actions : actions_of l.actions ++ replies (map fate_now l.fate-iterator.rest.items) ≡ actions_of l.initial.actions ++ replies l.fn.self.each;
  onward : l.onward.items ++ map onward_of (map fate_now l.fate-iterator.rest.items) ≡ map onward_of l.fn.self.each;
}
