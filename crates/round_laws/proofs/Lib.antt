pub mod Delivering
pub mod Plans
pub mod Stretching
pub mod Turning
