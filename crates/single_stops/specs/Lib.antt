pub mod StopsAsked
pub use Rattle.message_wires_laws
