pub mod Numbers
pub mod OnBus
pub mod Places
pub mod Rising
