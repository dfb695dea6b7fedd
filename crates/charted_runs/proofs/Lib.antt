pub mod Charting
pub mod Drawn
