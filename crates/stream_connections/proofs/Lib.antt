pub mod Ends
pub mod Replying
pub mod WorkedRests
