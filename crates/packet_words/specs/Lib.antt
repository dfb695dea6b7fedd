pub mod Layout
pub mod Pieces
pub mod Telling
pub use Rattle.gd_words
