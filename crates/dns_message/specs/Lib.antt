pub mod Fault
pub mod Reading
pub mod Numbers
pub mod Names
pub mod Shortcuts
pub mod Sizes
pub mod Runs
pub mod Values
pub mod Shapes
pub mod Data
pub mod Header
pub mod Records
pub mod Questions
pub mod Messages
pub mod Spans
pub mod Fields
pub mod Writing
pub mod Borrowed
pub mod Writer
pub mod Written
pub use Rattle.dns_name.specs as DnsName
pub use Rattle.dns_name.specs.PlainValues as PlainValues
