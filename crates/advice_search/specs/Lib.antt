pub mod Advising
pub mod Gathered
pub mod Lists
pub use Rattle.advice
pub use Rattle.path_semantics
