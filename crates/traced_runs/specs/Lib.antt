pub mod Trace
pub mod Traces
pub use Rattle.packet_runs
pub use Rattle.trace_forms
pub use Rattle.event_findings
pub use Rattle.packet_runs.specs.site_machine
