pub mod Values
pub mod Answers
pub mod Transports
pub mod Faults
pub mod Building
pub mod Sets
pub use Rattle.record_cache.specs as RecordCache
