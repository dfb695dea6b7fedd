pub mod Joined
pub mod Memories
pub mod Traps
pub use Rattle.tal_values
