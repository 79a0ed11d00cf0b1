pub mod Values
pub mod Moments
pub mod Entries
pub mod Finding
pub mod Stale
pub mod Showing
pub mod BySlot
pub mod Laws
pub use Rattle.record_cache.specs as RecordCache
