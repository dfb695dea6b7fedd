pub use Rattle.tal_meaning
pub use Rattle.tal_meaning.specs.tal_rules
