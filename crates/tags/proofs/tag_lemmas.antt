pub mod Lettering
pub mod Sheets
pub mod Tags
