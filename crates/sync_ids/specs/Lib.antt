pub mod Changes
pub mod Changing
pub mod Openers
pub mod Tables
pub use Rattle.checkpoint_image
pub use Rattle.checkpoint_image.specs.process_semantics
pub use Rattle.checkpoint_image.specs.gd_words
pub use Rattle.checkpoint_image.specs.tal_tree
