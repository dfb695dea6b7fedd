pub mod Breaks
pub mod Meanwhile
pub use Rattle.break_progress
pub use Rattle.schedule_runs
pub use Rattle.unfailing_judge
