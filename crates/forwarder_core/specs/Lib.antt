pub mod Acting
pub use Rattle.step_table.specs.WaitingQuestions as WaitingQuestions
pub use Rattle.step_table.specs as StepTable
pub use Rattle.theorem_use.specs.TheoremSound as TheoremSound
pub use Rattle.theorem_use.specs as TheoremUse
