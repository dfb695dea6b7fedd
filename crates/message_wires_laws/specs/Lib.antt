pub mod Carried
pub use Rattle.letter_laws.specs.awaited_requests
pub use Rattle.letter_laws
pub use Rattle.letter_laws.specs.takeover_laws
pub use Rattle.message_wires
pub use Rattle.message_wires.specs.machine_states
