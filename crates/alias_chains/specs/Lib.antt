pub mod LookingUp
pub mod StaleLookUps
pub mod Offering
pub mod Looked
pub mod Laws
pub use Rattle.negative_cache.specs.RecordCache as RecordCache
pub use Rattle.negative_cache.specs as NegativeCache
pub use Rattle.answer_builder.specs as AnswerBuilder
