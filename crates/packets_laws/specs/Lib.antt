pub mod Carried
pub mod Passing
pub mod Pieces
pub use Rattle.checkpoint_chains
pub use Rattle.letters_layout
pub use Rattle.packet_nets.specs.packet_wires
pub use Rattle.packet_nets
