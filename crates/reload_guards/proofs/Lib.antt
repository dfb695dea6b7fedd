pub mod Level
pub mod Plain
