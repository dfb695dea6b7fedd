pub mod Filled
pub mod Nodes
pub mod Numbered
pub mod Own
pub mod Small
pub mod Waits
