pub mod Euclid
pub mod PolynomialLaws
pub mod HighestTerm
pub mod PolynomialEuclid
pub mod BinaryAlphabet
