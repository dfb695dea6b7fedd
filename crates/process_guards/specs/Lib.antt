pub mod Machines
pub mod Nested
pub mod States
