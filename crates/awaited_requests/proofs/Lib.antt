pub mod Awaited
pub mod Depths
pub mod Leads
pub mod Near
pub mod Reloading
pub mod Seats
pub mod Standing
