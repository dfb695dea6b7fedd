pub mod Examples
pub mod Steps
pub use Rattle.tal_laws
pub use Rattle.tal_laws.specs.tal_reader
