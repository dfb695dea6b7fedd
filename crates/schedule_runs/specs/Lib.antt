pub mod Ends
pub mod Lengths
pub mod Rules
pub mod Runs
pub use Rattle.pair_machine
pub use Rattle.pair_machine.specs.world_copies
pub use Rattle.pair_machine.specs.message_wires
pub use Rattle.schedule_loop
