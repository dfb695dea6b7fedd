pub mod Agreeing
pub mod Booking
pub mod Ledgers
pub mod Served
pub mod Slots
pub use Rattle.process_histories
