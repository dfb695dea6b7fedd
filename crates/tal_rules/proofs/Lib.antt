pub mod Counted
pub mod Lone
pub mod Parts
pub mod StatementSteps
