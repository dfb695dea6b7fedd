pub mod Chains
pub mod Following
pub mod Newest
pub mod Numbered
pub mod Whole
