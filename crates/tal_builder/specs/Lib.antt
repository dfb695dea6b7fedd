pub mod Built
pub mod First
pub mod PlainTokens
pub mod Outcome
pub mod Parse
pub use Rattle.tal_syntax
