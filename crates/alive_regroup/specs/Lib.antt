pub mod Listening
pub mod Sets
pub mod Watching
