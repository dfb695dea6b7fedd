pub mod Ended
pub mod Lines
pub mod Mixes
pub mod Played
pub mod Rounds
pub use Rattle.gd_words
