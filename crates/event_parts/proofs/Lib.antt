pub mod Adds
pub mod Events
pub mod Numbers
pub mod Turns
pub mod Watches
