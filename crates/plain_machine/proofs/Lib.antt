pub mod AllStill
pub mod Lookups
pub mod Shows
pub mod Still
pub mod Sweeps
pub mod Told
pub mod Waiting
pub mod Writes
