pub mod Bounds
pub mod Devices
pub mod Histories
pub mod Served
pub mod Words
pub use Rattle.world_semantics.specs.disc_device
pub use Rattle.world_semantics.specs.whole_states
pub use Rattle.world_semantics
