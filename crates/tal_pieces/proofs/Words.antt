-- Every piece of the program of a text can be spelled.
pub mod LiteralWords
pub mod SpelledDeclarations
pub mod SpelledFiles
pub mod SpelledStatements
pub mod SpelledSyntax
pub mod WordPieces
pub mod WordPrograms
pub mod WordTrees
pub mod WordsOfTexts
