pub mod Heard
pub mod Mapped
pub mod NoneMissed
