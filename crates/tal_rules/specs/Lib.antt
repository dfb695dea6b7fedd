pub mod Calls
pub mod Expressions
pub mod Statements
pub mod Texts
pub use Rattle.tal_declarations
