pub mod BreakText
pub use Rattle.break_runs
pub use Rattle.break_runs.specs.schedule_runs
pub use Rattle.break_runs.specs.unfailing_judge
