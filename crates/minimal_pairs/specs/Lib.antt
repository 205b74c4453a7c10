pub use Rattle.algebra.specs.Realisation
pub mod Poly
pub mod MinimalPair
pub mod WorkedPairs
