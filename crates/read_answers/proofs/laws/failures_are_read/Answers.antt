use Rattle.read_answers.proofs.Failures.{failures_are_read}
use Rattle.read_answers.proofs.laws.failures_are_read.Goals as goal

pub returns : goal.returns
returns c = failures_are_read
