pub mod Messages
pub mod Patterns
pub mod Readers
pub mod Turns
