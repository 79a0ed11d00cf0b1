pub mod Frames
pub mod Runs
pub mod Laws
pub mod Counting
pub mod Unsent
