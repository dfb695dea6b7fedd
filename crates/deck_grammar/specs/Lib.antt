pub mod Grammar
pub mod Spells
