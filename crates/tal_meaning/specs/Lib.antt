pub mod Calls
pub mod Expressions
pub mod Judged
pub mod Programs
pub mod Statements
pub use Rattle.tal_rules
pub use Rattle.tal_names
