use Rattle.theorem_use.proofs.Theorem.{row_stays_fully_explained, start_fully_explained}
use Rattle.theorem_use.proofs.laws.rows_keep_what_fully_explains.Goals as goal

pub returns-clause-kept : goal.returns-clause-kept
returns-clause-kept c = row_stays_fully_explained

pub returns-clause-begun : goal.returns-clause-begun
returns-clause-begun c = start_fully_explained
