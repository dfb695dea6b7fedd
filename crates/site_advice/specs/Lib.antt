pub mod Pushed
pub mod SiteAdvised
pub use Rattle.advice_search.specs.advice
pub use Rattle.advice_search.specs.path_semantics
pub use Rattle.verdicts
