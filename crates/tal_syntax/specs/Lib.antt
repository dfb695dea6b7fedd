pub mod Grammar
pub mod Nesting
pub mod Expected
pub mod Seen
pub use Rattle.tal_tokens.specs.gd_words
pub use Rattle.tal_tokens
pub use Rattle.tal_tokens.specs.tal_tree
