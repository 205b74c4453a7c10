pub use Rattle.codes.specs.Cards
pub mod FileLines
pub mod FileText
pub mod Putting
pub mod ReportLines
pub mod WordReading
