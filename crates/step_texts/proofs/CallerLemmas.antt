-- Lemmas on replies for proofs of crates above: equal questions of a client get equal replies.
pub use Rattle.step_texts.proofs.Aliases.{lent_one_more, lent_then, sent_alike, stale_alike, local_alike}
