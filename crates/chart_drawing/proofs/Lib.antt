pub mod Behind
pub mod Ranges
