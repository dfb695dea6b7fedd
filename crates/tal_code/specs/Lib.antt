pub mod Parts
pub mod Room
pub mod Spots
pub mod Waiting
pub mod Words
