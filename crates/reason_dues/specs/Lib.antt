pub mod Amounts
pub mod Sets
pub use Rattle.path_semantics
