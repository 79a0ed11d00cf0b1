pub mod Journal
pub mod Quiet
pub mod Handling
pub mod Framing
pub mod InTime
pub mod Turns
pub mod Worked
pub use Rattle.forwarder_core.proofs.TheoremSound as TheoremSound
pub use Rattle.forwarder_core.proofs.TheoremUse as TheoremUse
