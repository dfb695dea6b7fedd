pub mod Buses
pub mod Due
pub mod Rounds
pub mod Stretches
pub mod Turns
