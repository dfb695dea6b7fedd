pub mod Ended
pub mod Sites
