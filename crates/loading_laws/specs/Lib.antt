pub use Rattle.code_room.specs.tal_laws
pub use Rattle.tal_interp
pub use Rattle.code_room.specs.tal_reader
