pub mod SeenSteps
