pub mod Calm
pub mod Costs
pub mod Runs
pub mod Turns
