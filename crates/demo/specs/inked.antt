pub mod InkedTag
pub mod Inspected
pub mod Inked
pub mod Texts
