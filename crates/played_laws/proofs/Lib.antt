pub mod Joined
pub mod Leaving
pub mod Played
pub mod Takeover
