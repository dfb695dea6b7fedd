pub mod Buses
pub mod Lengths
pub mod Played
pub mod Playing
