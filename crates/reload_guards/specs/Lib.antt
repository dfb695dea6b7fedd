pub mod Without
pub mod Worlds
