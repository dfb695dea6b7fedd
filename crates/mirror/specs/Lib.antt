pub mod Mirror
pub mod Sectors
pub mod States
pub use Rattle.gd_words
