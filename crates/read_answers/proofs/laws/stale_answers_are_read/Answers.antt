use Rattle.read_answers.proofs.Read.{stale_answers_are_read}
use Rattle.read_answers.proofs.laws.stale_answers_are_read.Goals as goal

pub returns : goal.returns
returns c = stale_answers_are_read
