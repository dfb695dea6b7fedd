pub mod Elsewhere
pub mod Homes
pub mod Same
