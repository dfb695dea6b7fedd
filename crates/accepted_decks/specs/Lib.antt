pub mod Left
pub use Rattle.packet_lengths.specs.deck_reader
pub use Rattle.verdicts
