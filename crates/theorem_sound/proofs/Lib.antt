pub mod Fates
pub mod Numbers
pub mod Names
pub mod AskText
pub mod Messages
pub mod Served
pub mod Listed
pub mod Asking
pub mod Due
pub mod Attempts
pub mod Actions
pub mod Answering
pub mod Cases
pub mod Matching
pub mod Nexts
pub mod Tries
pub mod Clients
pub mod Failures
pub mod Times
pub mod Accepting
pub mod Redirecting
pub mod Deliveries
pub mod Theorem
pub mod Runs
mod Worked
pub mod CallerLemmas
pub use Rattle.theorem_cache.proofs as TheoremCache
