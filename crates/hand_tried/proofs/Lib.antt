pub mod Cards
pub mod NearWords
pub mod Outcomes
pub mod NoneNear
pub mod Shown
pub mod Refused
pub mod Steps
