pub mod Built
pub mod Flow
pub mod Graph
pub mod Layout
pub mod Walk
pub use Rattle.path_semantics
pub use Rattle.path_semantics.specs.process_semantics
pub use Rattle.tal_tree
