-- What the names of a text without faults stand for.
pub mod Declared
pub mod FreeNames
pub mod GlobalNames
pub mod LocalNames
pub mod SourceNames
pub mod SourceScopes
pub mod TextGlobals
pub mod TextNames
