pub mod DataCells
pub mod EncodedWords
pub mod CodeExamples
