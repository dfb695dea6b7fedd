pub mod Memories
pub mod Running
