pub mod Moments
pub mod Places
pub use Rattle.packet_lengths.specs.packet_runs
