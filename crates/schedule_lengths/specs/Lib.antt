pub use Rattle.deck_reader
