pub mod Lacks
mod TruthSteps
mod ValueSteps
