pub mod Slots
pub mod Lists
pub mod Counting
pub mod Telling
pub mod Stored
pub mod Keeping
pub mod CallerLemmas
