pub mod Files
pub mod Globals
pub mod Headings
