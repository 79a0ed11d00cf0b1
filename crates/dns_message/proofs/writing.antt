pub mod NameEnd
pub mod Plain
pub mod PointerLaws
pub mod WriterLaws
pub mod WriterFields
pub mod WriterRecords
pub mod WriterSets
pub mod WriterMessages
pub mod Reading
pub mod Short
pub mod RoundTrip
pub mod RoundTripData
pub mod RoundTripMessage
mod Worked
