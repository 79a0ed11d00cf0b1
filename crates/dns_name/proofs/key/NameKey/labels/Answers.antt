use Rattle.std.proofs.Common.{subst, rules}
use Rattle.dns_name.specs.Labels.{IsName}
use Rattle.dns_name.proofs.LabelLaws.{few_labels}
use Rattle.dns_name.proofs.key.NameKey.labels.Goals as goal

pub returns-clause-few : goal.returns-clause-few
returns-clause-few c = few_labels _ (subst IsName c.octets.ensures.labels c.octets.ensures.laid.name)

pub labels_in-requires : goal.labels_in-requires
labels_in-requires c = search rules
