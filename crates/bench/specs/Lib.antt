pub mod Letters
pub mod Damaged
pub mod Readings
