use Rattle.read_answers.proofs.Read.{local_answers_are_read}
use Rattle.read_answers.proofs.laws.local_answers_are_read.Goals as goal

pub returns : goal.returns
returns c = local_answers_are_read
