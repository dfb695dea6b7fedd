pub mod Queue
pub mod Takeover
pub use Rattle.sync_ids
