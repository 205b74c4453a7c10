pub mod Polynomials
pub mod Fillings
