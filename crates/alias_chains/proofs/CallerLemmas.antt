-- The laws of look-ups, for the proofs of crates above.
pub use Rattle.alias_chains.proofs.Holding.{look_up_holds, held_holds, wants_own}
pub use Rattle.alias_chains.proofs.Offering.{same_pieces, held_now, walk_first}
