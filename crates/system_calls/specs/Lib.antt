pub mod Call
pub mod Notes
pub mod Options
