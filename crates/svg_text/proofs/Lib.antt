pub mod Content
pub mod Documents
pub mod Words
