pub use Rattle.tal_reader
pub use Rattle.tal_faultless.specs.tal_meaning
pub use Rattle.tal_faultless.specs.tal_rules
