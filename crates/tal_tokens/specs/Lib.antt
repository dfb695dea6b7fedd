pub mod Cursor
pub mod Lexeme
pub mod Lexer
pub use Rattle.tal_tree.specs.gd_words
pub use Rattle.tal_tree
