pub mod Premises
pub mod Sites
pub mod Texts
pub use Rattle.takeover_laws
pub use Rattle.tal_laws
