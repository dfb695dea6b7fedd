pub mod Needs
pub mod Standing
