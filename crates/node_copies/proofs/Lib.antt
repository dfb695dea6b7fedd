mod Abilities
mod Acts
mod Choosing
pub mod FileRows
mod KeptReplies
mod Loads
mod ShownCounts
