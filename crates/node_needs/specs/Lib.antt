pub mod Examples
pub mod NodeNeeds
pub use Rattle.standing_links
