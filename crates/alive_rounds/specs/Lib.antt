pub mod Watched
pub mod Fresh
pub mod Runs
