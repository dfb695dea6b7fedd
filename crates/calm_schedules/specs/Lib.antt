pub mod Calm
pub mod Examples
