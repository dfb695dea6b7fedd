pub mod Ends
pub mod Search
pub use Rattle.flow_paths
pub use Rattle.reason_dues
