-- Lemmas for proofs of crates above: the theorem, and continued runs.
pub use Rattle.theorem_use.proofs.Theorem.{row_stays_fully_explained, start_fully_explained, run_serves_truly}
pub use Rattle.theorem_use.proofs.Theorem.{run_serves_on, row_serves_on, came_more}
pub use Rattle.theorem_use.proofs.InTime.{nothing_more_is_due, more_is_due}
