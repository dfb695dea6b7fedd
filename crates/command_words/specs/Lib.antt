pub mod Asked
pub mod Guarded
pub mod Line
