pub mod EndedDecks
pub mod Unmirrored
