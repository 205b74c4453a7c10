pub mod NumberBytes
pub mod ReadBytes
pub mod WrittenBytes
pub mod NumberExamples
pub mod Worth
pub mod BadNumbers
pub mod NumberRules
