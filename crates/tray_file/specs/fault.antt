pub mod Layers
pub mod Faults
