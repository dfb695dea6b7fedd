pub mod EndedDecks
pub mod InForm
pub mod Judged
pub mod Reports
pub mod Stops
pub mod Verified
