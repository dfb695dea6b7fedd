pub mod LineLemmas
pub mod NamedLines
pub mod ReplayLemmas
