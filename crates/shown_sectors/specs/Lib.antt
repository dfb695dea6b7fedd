pub mod Sectors
pub mod Tables
