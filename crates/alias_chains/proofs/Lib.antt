pub mod Following
pub mod StaleLookUps
pub mod Alike
pub mod Holding
pub mod CallerLemmas
pub mod Offering
pub mod Chains
