pub mod MarkedLetters
