pub mod FrameLaws
pub mod RunLaws
pub mod Counting
pub mod CallerLemmas
