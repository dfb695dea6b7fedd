pub mod Lengths
pub use Rattle.schedule_loop.specs.machine_states
pub use Rattle.schedule_loop
