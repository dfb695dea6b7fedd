pub mod Advanced
pub mod Advancing
pub mod Numbering
pub mod Paths
pub mod Seen
pub mod Trails
pub mod Ways
