pub mod Layout
pub mod Messages
pub mod Reading
pub use Rattle.change_layout
pub use Rattle.world_semantics
pub use Rattle.world_semantics.specs.checkpoint_image
pub use Rattle.change_layout.specs.process_semantics
