pub mod Chains
pub use Rattle.letter_laws
