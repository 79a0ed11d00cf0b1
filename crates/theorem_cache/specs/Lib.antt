pub mod Kept
pub mod Chains
pub mod Laws
