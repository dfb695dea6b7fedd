mod Abilities
pub mod Addresses
mod Applying
mod Beginnings
mod Blanks
pub mod Changing
mod Depths
mod Steps
mod Turned
