pub mod Changing
pub mod Layout
pub mod Reading
pub use Rattle.receive_changes
pub use Rattle.receive_changes.specs.sync_ids
pub use Rattle.receive_changes.specs.gd_words
pub use Rattle.receive_changes.specs.process_semantics
pub use Rattle.receive_changes.specs.tal_tree
