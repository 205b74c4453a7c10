pub mod Sheet
pub mod Tags
