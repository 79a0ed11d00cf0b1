pub mod Values
pub mod Onward
pub mod Indexes
pub mod Settling
