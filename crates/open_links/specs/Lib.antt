pub mod Parts
pub use Rattle.node_needs
pub use Rattle.world_copies.specs.processes
pub use Rattle.world_copies.specs.sendings
pub use Rattle.world_copies
pub use Rattle.world_copies.specs.node_copies
