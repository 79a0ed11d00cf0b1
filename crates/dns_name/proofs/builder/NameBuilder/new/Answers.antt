use Rattle.dns_name.proofs.LabelLaws.{laid_out-nil, labels_of-nil}
use Rattle.dns_name.proofs.builder.NameBuilder.new.Goals as goal

pub invariant_of-result : goal.invariant_of-result
invariant_of-result c = rw c.new.ensures laid_out-nil

pub returns : goal.returns
returns c = rw c.new.ensures labels_of-nil
