pub mod LineLaws
mod PartLaws
mod WorkedParts
pub mod Written
pub mod Printed
pub mod LinesOf
pub mod RunLaws
