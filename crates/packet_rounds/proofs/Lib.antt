pub mod Buses
pub mod Examples
pub mod Kept
pub mod Nets
pub mod Rounds
