pub use Rattle.packet_runs
