pub mod Held
pub mod States
