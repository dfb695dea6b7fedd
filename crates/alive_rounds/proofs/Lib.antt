pub mod Freshness
pub mod Running
