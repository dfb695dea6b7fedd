-- Printed globals and headings read back, and declare what they declared.
pub mod DeclarationsBack
pub mod HeadingsBack
pub mod ItemsBack
pub mod ItemsDeclared
pub mod LocalsBack
pub mod LocalsFaults
