pub mod Judged
pub use Rattle.deck_reader
