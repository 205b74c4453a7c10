pub mod Journals
pub mod Rooms
pub mod Scripts
pub mod Staying
