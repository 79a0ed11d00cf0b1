-- Lemmas about decisions, for proofs of crates above.
pub use Rattle.step_actions.proofs.Carried.{carries_nothing, fits_plain, next_is, plain_next}
pub use Rattle.step_actions.proofs.Changes.{kept_later, kept_put, put_back}
pub use Rattle.step_actions.proofs.DueFirst.{rest_is, timeout_fits}
pub use Rattle.step_actions.proofs.Made.{decides_as, decides_by}
pub use Rattle.step_actions.proofs.Fates.{waits_missed}
pub use Rattle.step_actions.proofs.Following.{first_follows, kept_of, listed_within, more_left, next_by_tcp, next_by_udp, server_within, tcp_goes_on, udp_goes_on}
pub use Rattle.step_actions.proofs.Later.{kept_rest, kept_without, later_entries, later_held, later_taken}
