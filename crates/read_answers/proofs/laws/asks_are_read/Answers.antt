use Rattle.read_answers.proofs.Asks.{asks_are_read}
use Rattle.read_answers.proofs.laws.asks_are_read.Goals as goal

pub returns : goal.returns
returns c = asks_are_read
