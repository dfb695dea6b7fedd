pub mod Changes
pub mod Lists
pub mod Openers
pub mod Putting
pub mod Steps
pub mod Tables
