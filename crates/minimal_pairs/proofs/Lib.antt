pub mod PolyFacts
pub mod Counting
pub mod PairInvariant
pub mod Bounds
