use Rattle.std.proofs.Common.{◌≡◌, ◌++◌}
use Rattle.std.specs.Prelude.{map}
use Rattle.step_table.specs.Replies.{without_port}
use Rattle.reply_decisions.specs.Fates.{fate_now}
use Rattle.reply_decisions.proofs.fates.Fates.without_port.Given as goal

abbrev pub invariant-loop-fate : goal.invariant-loop-fate
invariant-loop-fate g l = map fate_now l.failed.items ++ map without_port (map fate_now l.fate-iterator.rest.items) ≡ map without_port l.fn.self.each
