pub use Rattle.codes.specs.Cards
pub use Rattle.decoding.specs.reading.Reading
pub mod marks
pub mod tag
pub mod runs
