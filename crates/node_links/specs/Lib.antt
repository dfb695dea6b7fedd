pub mod Linking
pub mod Routing
