pub mod Booted
pub mod Forgotten
