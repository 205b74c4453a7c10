pub mod Words
pub mod Codewords
pub mod CellParts
pub mod house_lemmas
