mod Consistent
mod Numbers
mod Ordered
pub mod Starting
pub mod Tables
