pub mod Spelling
pub use Rattle.step_table.specs.NegativeCache as NegativeCache
pub use Rattle.step_table.specs.AliasChains as AliasChains
pub use Rattle.step_table.specs.WaitingQuestions as WaitingQuestions
pub use Rattle.step_table.specs as StepTable
