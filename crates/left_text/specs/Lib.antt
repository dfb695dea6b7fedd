pub mod LeftText
pub use Rattle.left_findings
pub use Rattle.left_findings.specs.machine_views
