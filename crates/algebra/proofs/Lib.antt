mod rings
mod elements
pub mod OnElements
pub mod Lengths
pub mod RingFacts
pub mod Inverses
pub mod Modulus
pub mod Places
pub mod Counts
pub mod Coefficients
pub mod Terms
pub mod Applied
pub mod Numbers
pub mod Decoding
pub mod PairSteps
