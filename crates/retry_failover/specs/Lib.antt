pub mod Table
pub mod Inquiries
pub mod Laws
