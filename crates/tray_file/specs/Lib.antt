pub use Rattle.codes.specs.Cards
pub mod number
pub mod fault
pub mod body
pub mod reader
pub mod writer
