pub use Rattle.letter_laws.specs.awaited_requests
pub use Rattle.letter_laws
pub use Rattle.letter_laws.specs.computed_changes
