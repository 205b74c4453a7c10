pub mod Calls
pub mod Rooms
pub mod Runs
pub mod Plays
pub mod Scripts
