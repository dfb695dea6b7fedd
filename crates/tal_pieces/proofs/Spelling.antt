-- The text of pieces is cut into just these pieces, and every token of a text can be spelled.
pub mod Begun
pub mod Cut
pub mod Follow
pub mod Numbers
pub mod Runs
pub mod SpelledTokens
pub mod Strings
pub mod Symbols
pub mod UpperCase
