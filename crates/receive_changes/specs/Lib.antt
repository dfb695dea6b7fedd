pub mod Later
pub use Rattle.sync_ids.specs.checkpoint_image
pub use Rattle.sync_ids.specs.process_semantics
pub use Rattle.sync_ids
pub use Rattle.sync_ids.specs.gd_words
pub use Rattle.sync_ids.specs.tal_tree
