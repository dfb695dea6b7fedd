pub mod Aligned
pub mod Layers
