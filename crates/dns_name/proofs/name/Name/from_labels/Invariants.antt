use Rattle.std.proofs.Common.{◌≡◌, ◌≤◌, map, take}
use Rattle.dns_name.specs.Labels.{size_of}
use Rattle.dns_name.proofs.name.Name.from_labels.Given as goal

abbrev pub invariant-loop-label : goal.invariant-loop-label
invariant-loop-label g l = (l.builder ≡ map (λ v. v.items) (take l.label-index l.labels)) × (size_of l.builder ≤ 255)
