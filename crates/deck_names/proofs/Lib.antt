pub mod DeckNames
pub mod Files
pub mod Openers
pub mod Outlines
pub mod Places
pub mod Signs
pub mod Variables
