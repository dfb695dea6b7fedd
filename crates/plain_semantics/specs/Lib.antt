pub mod Concerns
pub mod Counted
pub mod Machine
pub mod OpenerRows
pub mod Openers
pub mod SiteLimits
pub mod Sought
pub use Rattle.process_semantics
