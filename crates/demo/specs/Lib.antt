pub mod inked
pub mod Found
pub mod Filed
pub mod MarkTexts
pub mod Texts
