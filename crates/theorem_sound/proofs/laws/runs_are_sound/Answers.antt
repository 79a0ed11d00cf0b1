use Rattle.theorem_sound.proofs.Runs.{runs_sound}
use Rattle.theorem_sound.proofs.laws.runs_are_sound.Goals as goal

pub returns : goal.returns
returns c = runs_sound
