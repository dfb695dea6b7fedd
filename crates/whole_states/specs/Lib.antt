pub mod Listing
pub mod Processes
pub mod Whole
pub use Rattle.process_semantics.specs.gd_words
pub use Rattle.process_semantics
pub use Rattle.process_semantics.specs.tal_tree
