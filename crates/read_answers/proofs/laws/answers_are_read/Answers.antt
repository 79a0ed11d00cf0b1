use Rattle.read_answers.proofs.Read.{answers_are_read}
use Rattle.read_answers.proofs.laws.answers_are_read.Goals as goal

pub returns : goal.returns
returns c = answers_are_read
