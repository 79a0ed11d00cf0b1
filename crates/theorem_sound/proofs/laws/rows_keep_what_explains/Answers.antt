use Rattle.theorem_sound.proofs.Theorem.{start_explained}
use Rattle.theorem_sound.proofs.Runs.{row_stays}
use Rattle.theorem_sound.proofs.laws.rows_keep_what_explains.Goals as goal

pub returns-clause-kept : goal.returns-clause-kept
returns-clause-kept c = row_stays

pub returns-clause-begun : goal.returns-clause-begun
returns-clause-begun c = start_explained
