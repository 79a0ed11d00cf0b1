use Rattle.std.proofs.Common.{◌≡◌, drop}
use Rattle.std.specs.Prelude.{map}
use Rattle.step_table.specs.Steps.{still_waiting}
use Rattle.reply_decisions.specs.Fates.{fate_now, first_wanted}
use Rattle.reply_decisions.proofs.fates.Fates.wanted.Given as goal

abbrev pub invariant-loop-fate : goal.invariant-loop-fate
invariant-loop-fate g l = first_wanted (still_waiting (map fate_now (drop l.fate-index l.fate-items))) ≡ first_wanted (still_waiting l.self.each)
