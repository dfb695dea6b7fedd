pub mod Leaving
pub mod Takeover
