pub mod OneDue
pub mod ReportedInput
pub mod RunStatus
pub use Rattle.command_dues
