pub mod Built
pub mod Lone
