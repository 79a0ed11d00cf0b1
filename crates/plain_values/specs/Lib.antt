pub mod Octets
pub mod Borrowed
pub mod Places
pub mod Listed
pub mod FirstFault
