pub mod Changes
pub mod Messages
pub mod Whole
