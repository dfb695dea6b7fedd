pub mod Blocked
pub mod KeptTurns
pub mod Orders
pub mod Settling
pub mod Verdicts
pub mod Ways
