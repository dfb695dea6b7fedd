pub mod ByParts
pub mod Guarded
pub mod Layers
pub mod Loops
pub mod Low
pub mod Read
pub mod Statements
pub mod Values
