pub mod Forms
pub mod Pieces
pub use Rattle.trace_lines
