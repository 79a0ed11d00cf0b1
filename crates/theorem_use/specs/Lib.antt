pub mod Standing
pub mod Use
pub mod Touched
pub mod Recent
pub mod Asking
pub mod Mirrors
pub mod Service
pub mod InTime
pub mod Laws
pub use Rattle.theorem_sound.specs as TheoremSound
