pub mod Encodings
pub mod CodeExamples
