pub mod Counted
pub mod Lone
pub mod Lookups
pub mod Opens
pub mod Order
pub mod Parts
pub mod Turns
