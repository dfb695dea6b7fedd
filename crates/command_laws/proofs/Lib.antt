pub mod Accepted
pub mod Commands
pub mod Faults
pub mod OneDue
mod OneAdvice
mod OneSweep
pub mod Verifies
