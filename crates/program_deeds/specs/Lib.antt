pub mod Deed
pub mod Doing
