pub mod Polynomials
pub mod Blanks
pub mod FilledWords
