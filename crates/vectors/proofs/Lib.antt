pub mod WorkedSums
pub mod Texts
pub mod AlphabetSizes
pub mod CodeCases
pub mod Journals
