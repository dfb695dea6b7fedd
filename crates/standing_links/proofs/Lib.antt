pub mod Ones
pub mod Tables
pub mod Stands
