pub mod Escapes
pub mod Looks
pub mod Shapes
pub mod Sheets
pub mod Xml
