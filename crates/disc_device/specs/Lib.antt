pub mod Sectors
pub use Rattle.mirror
