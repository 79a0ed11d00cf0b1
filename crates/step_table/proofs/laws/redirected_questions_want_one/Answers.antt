use Rattle.step_table.proofs.Redirected.{redirected_questions_want_one}
use Rattle.step_table.proofs.laws.redirected_questions_want_one.Goals as goal

pub returns : goal.returns
returns c = redirected_questions_want_one
