pub mod Mirrors
pub mod States
