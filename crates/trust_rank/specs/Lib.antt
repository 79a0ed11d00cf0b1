pub mod Values
pub mod Sets
pub mod Gathering
pub mod Denials
pub mod Walks
pub mod Replacing
pub mod Formed
pub mod Writable
pub mod Laws
pub use Rattle.suffix_routes.specs as SuffixRoutes
