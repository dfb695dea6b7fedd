mod Steps
mod CompleteExpressions
mod CompleteArguments
mod CompleteStatements
mod CompleteDeclarations
pub mod CompleteTexts
mod Things
mod SoundExpressions
mod Attached
mod SoundStatements
mod SoundDeclarations
mod SoundWanted
mod Sound
mod Split
mod Finished
mod Exact
mod Levels
pub mod Ended
pub mod Once
