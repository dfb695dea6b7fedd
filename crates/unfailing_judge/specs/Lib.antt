pub mod Due
pub mod Order
pub mod Replays
pub mod Sound
pub mod Turns
pub use Rattle.plain_semantics
pub use Rattle.plain_machine
