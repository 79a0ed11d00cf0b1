-- Laws for proofs of crates above.
pub use Rattle.cache_laws.proofs.Carried.{carried_exactly}
pub use Rattle.cache_laws.proofs.Replacing.{one_slot, slot_test, replaces_exactly, keeps_place, place_kept}
pub use Rattle.cache_laws.proofs.Serving.{serves_exactly, denies_names_exactly, none_serves_exactly}
