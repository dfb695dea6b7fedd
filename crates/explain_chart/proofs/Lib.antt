pub mod DeckCharts
