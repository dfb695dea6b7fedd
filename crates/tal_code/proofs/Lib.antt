pub mod Growing
pub mod Places
pub mod Room
pub mod Shown
pub mod Tops
pub mod Waits
