pub use Rattle.codes.specs.Cards
pub use Rattle.codes.specs.Code
pub use Rattle.codes.specs.Standings
pub mod filling
pub mod encoding
pub mod reading
