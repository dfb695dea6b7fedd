pub mod Findings
pub mod Notes
pub use Rattle.advice_search.specs.advice
pub use Rattle.statement_dues
pub use Rattle.verdicts
