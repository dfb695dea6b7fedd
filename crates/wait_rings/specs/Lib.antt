pub mod Rings
pub mod Waits
