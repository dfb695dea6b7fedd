pub mod Buses
pub mod Decks
pub mod Lengths
pub mod Playable
