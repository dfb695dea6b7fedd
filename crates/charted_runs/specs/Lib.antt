pub mod Charts
pub use Rattle.chart_drawing
pub use Rattle.traced_runs
pub use Rattle.traced_runs.specs.packet_runs
pub use Rattle.traced_runs.specs.site_machine
