pub mod Timed
pub mod Searched
