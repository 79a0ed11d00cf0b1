pub mod Numbers
pub mod Numbering
