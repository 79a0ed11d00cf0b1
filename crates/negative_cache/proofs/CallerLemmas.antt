-- The laws of look-ups, for proofs of crates above.
pub use Rattle.negative_cache.proofs.Fitting.{found_fits}
pub use Rattle.negative_cache.proofs.Keeping.{equal_questions_find_the_same, promotion_keeps_found, shown_is_replaced}
pub use Rattle.negative_cache.proofs.StaleLookUps.{stale_fits, nothing_is_found_of_denied}
