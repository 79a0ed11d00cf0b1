pub mod Events
pub mod InTime
pub mod Serving
pub mod Handing
pub mod Streams
pub use Rattle.forwarder_core.specs.TheoremSound as TheoremSound
pub use Rattle.forwarder_core.specs.TheoremUse as TheoremUse
