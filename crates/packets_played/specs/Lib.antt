pub use Rattle.idle_laws.specs.accepted_sites
pub use Rattle.idle_laws.specs.awaited_requests
pub use Rattle.idle_laws.specs.letter_laws
pub use Rattle.packets_laws.specs.letters_layout
pub use Rattle.packets_laws
pub use Rattle.idle_laws.specs.takeover_laws
