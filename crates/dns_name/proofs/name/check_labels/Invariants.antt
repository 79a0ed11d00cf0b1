use Rattle.std.proofs.Common.{◌≡◌, map, drop}
use Rattle.dns_name.specs.Faults.{label_fault, first_fault}
use Rattle.dns_name.proofs.name.check_labels.Given as goal

abbrev pub invariant-loop-label : goal.invariant-loop-label
invariant-loop-label g l = first_fault label_fault (map (λ v. v.items) (drop l.label-index l.labels)) ≡ first_fault label_fault (map (λ v. v.items) l.labels)
