pub mod Walked
pub mod Fates
pub mod Redirecting
