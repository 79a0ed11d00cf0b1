pub mod Aliases
pub mod CallerLemmas
pub mod Fronts
pub mod Room
pub mod Telling
pub mod TextLaws
pub use Rattle.step_table.proofs.AliasChains as AliasChains
pub use Rattle.step_table.proofs as StepTable
