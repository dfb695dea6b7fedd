pub mod Noted
pub use Rattle.packet_runs
