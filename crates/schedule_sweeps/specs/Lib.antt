pub mod Sweeps
pub use Rattle.packet_runs.specs.node_copies
pub use Rattle.packet_runs
pub use Rattle.packet_runs.specs.site_machine
