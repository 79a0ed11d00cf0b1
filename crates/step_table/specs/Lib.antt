pub mod State
pub mod Attempts
pub mod Steps
pub mod Clients
pub mod Failures
pub mod Replies
pub mod Ticks
pub mod Row
pub mod Progress
pub mod Laws
pub use Rattle.alias_chains.specs as AliasChains
pub use Rattle.waiting_questions.specs as WaitingQuestions
pub use Rattle.alias_chains.specs.NegativeCache as NegativeCache
pub use Rattle.reply_match.specs as ReplyMatch
