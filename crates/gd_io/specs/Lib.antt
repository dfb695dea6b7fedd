pub mod Faults
pub mod Joining
pub mod Puts
pub mod Reads
pub mod Sink
pub mod Source
