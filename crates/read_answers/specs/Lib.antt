pub mod Read
pub mod Laws
