pub mod Answers
pub mod Dropped
pub mod Listed
pub mod Open
pub mod Queries
pub mod Serving
pub mod Streams
pub mod Waiting
