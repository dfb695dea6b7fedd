pub mod Repeats
pub mod Rising
pub use Rattle.sendings
