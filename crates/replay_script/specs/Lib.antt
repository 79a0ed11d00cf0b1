pub mod Words
pub mod Reasons
pub mod Faults
pub mod Configs
pub mod Lines
pub mod Parts
pub mod Printing
pub mod Runs
pub use Rattle.forwarder_core.specs.StepTable as StepTable
