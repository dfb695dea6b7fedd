pub mod Checkpoints
pub mod Deeds
