pub mod Progress
pub use Rattle.gd_io
