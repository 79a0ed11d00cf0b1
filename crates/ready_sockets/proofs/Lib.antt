pub mod Events
pub mod Noting
pub mod Turns
