pub mod Loading
pub mod Processes
