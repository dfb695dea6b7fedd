pub mod Causes
pub mod Judgeable
pub mod Refused
pub use Rattle.discipline
