pub mod Explains
pub mod Runs
pub mod Laws
pub use Rattle.theorem_cache.specs as TheoremCache
