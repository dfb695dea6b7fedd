pub mod CalmRuns
