pub mod Values
pub mod Ageing
pub mod Entries
pub mod Offers
pub mod Storing
pub mod Laws
pub use Rattle.trust_rank.specs as TrustRank
