pub mod CallerLemmas
pub mod Worked
