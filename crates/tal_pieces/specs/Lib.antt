pub mod Cuts
pub mod Printed
pub mod ReadsAgain
pub mod Spelling
pub mod Unlined
pub mod Weights
pub use Rattle.tal_meaning
pub use Rattle.tal_rules
