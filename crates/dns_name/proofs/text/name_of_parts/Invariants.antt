use Rattle.std.proofs.Common.{◌≡◌, ◌≤◌, ◌++◌}
use Rattle.dns_name.specs.Labels.{size_of}
use Rattle.dns_name.specs.Text.{parts_of}
use Rattle.dns_name.proofs.text.name_of_parts.Given as goal

abbrev pub invariant-loop-label : goal.invariant-loop-label
invariant-loop-label g l = (parts_of l.text ≡ l.builder ++ l.label-iterator) × (size_of l.builder ≤ 255)
