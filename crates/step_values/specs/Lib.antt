pub mod Values
pub mod Requests
pub use Rattle.outstanding.specs as Outstanding
