pub mod Commands
pub mod Counts
pub mod Done
pub mod Service
pub mod Statuses
pub use Rattle.serving_loop.specs as ServingLoop
