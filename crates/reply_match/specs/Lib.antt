pub mod Peers
pub mod Questions
pub mod Verdicts
pub mod Judged
pub mod Laws
