pub mod Checkpoints
pub mod States
