pub mod All
pub mod Levels
pub mod Listed
pub mod Stands
