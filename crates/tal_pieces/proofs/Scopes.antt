-- What the names of a text without faults stand for, and that they stand for the same where LITERALs are gone.
pub mod Agreement
pub mod DeclaredNames
pub mod ScopesAgree
pub mod SourceScopes
