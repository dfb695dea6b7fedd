pub mod Lexed
pub mod Values
pub mod Ended
