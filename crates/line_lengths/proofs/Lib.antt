mod Lines
pub mod Lengths
mod Turns
