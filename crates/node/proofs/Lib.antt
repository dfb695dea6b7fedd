pub mod Arrivals
pub mod Changed
pub mod Ends
pub mod Holding
pub mod Lines
pub mod Loops
pub mod Quiet
