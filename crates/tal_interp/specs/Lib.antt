pub mod Images
pub mod SeenFrames
pub mod Sound
pub use Rattle.process_semantics
pub use Rattle.tal_tree
