pub mod Held
pub mod Reloaded
pub mod Rooms
pub mod Served
pub mod Stopped
