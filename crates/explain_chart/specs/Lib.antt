pub mod DeckCharts
pub use Rattle.charted_runs
pub use Rattle.traced_decks
