pub mod Each
pub mod Numbered
pub mod Told
pub mod Waits
pub mod Whole
