pub mod Agendas
pub mod Sizes
