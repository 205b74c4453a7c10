pub mod Reading
pub mod Erasing
pub mod Decoding
