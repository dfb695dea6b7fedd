pub mod Left
pub mod Places
pub use Rattle.machine_views
