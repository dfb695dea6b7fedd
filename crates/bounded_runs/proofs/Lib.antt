mod Calm
mod Delivered
mod Pieces
mod Playing
pub mod Runs
mod Seeing
mod Stretches
