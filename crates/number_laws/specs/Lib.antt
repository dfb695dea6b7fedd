pub use Rattle.message_wires
pub use Rattle.message_wires.specs.machine_states
