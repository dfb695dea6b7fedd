pub mod Runs
pub mod Steps
pub use Rattle.noted_rules
pub use Rattle.noted_rules.specs.packet_runs
pub use Rattle.program_ends
