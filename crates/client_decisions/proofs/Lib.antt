pub mod Clients
pub mod Hits
pub use Rattle.step_actions.proofs as StepActions
