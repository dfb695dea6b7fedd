pub mod Ends
pub mod Events
pub mod Loading
pub mod Ready
pub mod Rooms
pub mod Sendings
