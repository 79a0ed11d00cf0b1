use Rattle.std.proofs.Common.{rules}
use Rattle.dns_name.proofs.LabelLaws.{few_labels}
use Rattle.dns_name.proofs.name.Name.labels.Goals as goal

pub returns-clause-few : goal.returns-clause-few
returns-clause-few g c = rw c.octets.ensures.labels at (few_labels _ c.octets.ensures.laid.name)

pub labels_in-requires : goal.labels_in-requires
labels_in-requires g c = search rules
