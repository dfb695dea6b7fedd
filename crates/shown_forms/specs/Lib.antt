pub mod Numbers
pub mod Sites
pub use Rattle.told_reports
