pub mod Among
pub mod AmongTest
pub mod Distinct
pub mod OneWord
pub mod PaddedSteps
