pub use Rattle.step_actions.specs as StepActions
