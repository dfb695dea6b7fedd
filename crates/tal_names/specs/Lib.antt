pub mod Faults
pub mod Found
pub mod Names
pub mod Places
pub mod Scopes
pub mod Systems
pub use Rattle.tal_syntax.specs.gd_words
pub use Rattle.tal_syntax
