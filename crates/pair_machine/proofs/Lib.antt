pub mod Drives
pub mod Loads
pub mod Marks
pub mod Packets
pub mod Room
pub mod Steps
pub mod Unmarked
