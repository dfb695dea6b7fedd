pub mod Acting
pub mod Calm
pub mod Sending
pub mod Sound
pub mod Ticking
pub mod Watching
pub mod Whole
