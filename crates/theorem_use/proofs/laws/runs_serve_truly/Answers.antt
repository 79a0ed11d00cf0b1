use Rattle.theorem_use.proofs.Theorem.{run_serves_truly}
use Rattle.theorem_use.proofs.laws.runs_serve_truly.Goals as goal

pub returns : goal.returns
returns c = run_serves_truly
