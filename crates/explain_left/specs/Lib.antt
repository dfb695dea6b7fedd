pub mod Left
pub mod LeftRuns
pub use Rattle.explain_why
