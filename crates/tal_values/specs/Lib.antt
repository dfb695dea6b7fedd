pub mod Chain
pub mod Seen
pub mod Spots
pub mod Value
pub use Rattle.tal_tree.specs.gd_words
pub use Rattle.tal_tree
