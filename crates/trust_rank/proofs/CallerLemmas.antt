-- Lemmas for proofs of crates above: the laws of walks, and the targets of aliases.
pub use Rattle.trust_rank.proofs.Leading.{walk_leads, servers_fit, walk_plain}
pub use Rattle.trust_rank.proofs.PieceLaws.{no_target}
pub use Rattle.trust_rank.proofs.Writing.{pieces_are_writable}
