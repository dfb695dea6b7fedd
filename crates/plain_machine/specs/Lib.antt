pub mod Lines
pub mod Machines
pub mod Outcomes
pub mod Rounds
pub mod Standing
pub mod Stillness
pub mod Wiring
pub mod Writes
