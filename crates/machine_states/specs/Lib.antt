pub mod Answered
pub mod Drives
pub mod States
pub use Rattle.world_semantics.specs.disc_device
pub use Rattle.world_semantics
