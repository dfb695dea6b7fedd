pub mod Decided
pub mod Ends
pub mod Written
pub use Rattle.explain_chart.specs.traced_decks
