pub mod Calling
pub mod Trying
pub mod Seen
pub mod Tokens
