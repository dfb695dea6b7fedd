pub mod Discs
pub mod Inner
pub mod Kept
pub mod Lists
pub mod Machine
pub mod Possible
pub mod States
pub mod Values
