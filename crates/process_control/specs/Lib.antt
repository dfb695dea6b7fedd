pub mod Consistent
pub mod Copies
pub mod Cores
pub use Rattle.computed_changes
pub use Rattle.whole_states
