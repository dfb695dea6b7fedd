pub mod ChainSteps
pub mod TruthSteps
pub mod ValueSteps
