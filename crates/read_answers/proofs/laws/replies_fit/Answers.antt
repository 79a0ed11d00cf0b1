use Rattle.read_answers.proofs.Fits.{replies_fit}
use Rattle.read_answers.proofs.laws.replies_fit.Goals as goal

pub returns : goal.returns
returns c = replies_fit
