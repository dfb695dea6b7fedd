pub mod Broken
pub use Rattle.break_text.specs.break_runs.specs.break_progress
