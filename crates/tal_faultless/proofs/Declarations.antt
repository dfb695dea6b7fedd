-- What the lines of globals declare.
pub mod ItemsDeclarable
