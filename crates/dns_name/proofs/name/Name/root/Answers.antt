use Rattle.dns_name.proofs.LabelLaws.{laid_out-nil, labels_of-nil}
use Rattle.dns_name.proofs.name.Name.root.Goals as goal

pub invariant_of-result : goal.invariant_of-result
invariant_of-result g c = rw c.new.ensures laid_out-nil

pub returns : goal.returns
returns g c = rw c.new.ensures labels_of-nil
