pub mod Outcomes
pub mod HandTried
