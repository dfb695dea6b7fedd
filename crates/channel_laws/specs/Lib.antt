pub mod Net
pub mod Rounds
pub mod Way
