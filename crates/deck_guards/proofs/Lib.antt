pub mod Mirrors
pub mod Spelt
