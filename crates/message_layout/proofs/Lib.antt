pub mod Again
pub mod Exact
pub mod Readers
pub mod Sets
