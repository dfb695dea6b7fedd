pub mod Owing
pub mod Passing
pub mod Tied
pub use Rattle.packet_wires
