-- Lemmas for proofs of crates above: the theorem, runs continued by a step, the pieces of a
-- delivery, and questions sent on.
pub use Rattle.theorem_sound.proofs.Theorem.{row_explained, start_explained}
pub use Rattle.theorem_sound.proofs.Deliveries.{IsHeard, heard, heard_carried, heard_asked, heard_end, matches_it, fates_speak, carries, carries_asked, carries_end, offered}
pub use Rattle.theorem_sound.proofs.Runs.{row_stays, IsExplained-initial, explained_is_sound, explained_more, run_more, stays_at, input_more}
pub use Rattle.theorem_sound.proofs.Names.{told_same_name}
pub use Rattle.theorem_sound.proofs.Served.{served_is, served_so}
pub use Rattle.theorem_sound.proofs.Nexts.{gave_up, asked_next, asked_again}
pub use Rattle.theorem_sound.proofs.Redirecting.{question_led, CanBeSent, IsSent, all_sent, IsNew, asked_is_new}
