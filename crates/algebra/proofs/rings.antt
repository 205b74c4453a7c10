-- The theory over any commutative ring and field. Other crates use what is about numbers alone, so this is private.
pub mod Ring
pub mod Sums
pub mod Polynomials
pub mod Points
pub mod Interpolation
pub mod Syndromes
pub mod Filling
pub mod ErrorLocators
pub mod Convolutions
pub mod MinimalPairs
