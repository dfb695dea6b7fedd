pub mod PlacesOf
pub use Rattle.traced_runs
pub use Rattle.accepted_decks.specs.verdicts
