use Rattle.std.proofs.Common.{◌≡◌}
use Rattle.dns_name.specs.Faults.{first_fault}
use Rattle.dns_name.specs.Text.{written_label_fault, parts_of}
use Rattle.dns_name.proofs.text.check_parts.Given as goal

abbrev pub invariant-loop-label : goal.invariant-loop-label
invariant-loop-label l = first_fault written_label_fault (parts_of l.text) ≡ first_fault written_label_fault l.label-iterator
