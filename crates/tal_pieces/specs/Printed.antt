-- The pieces of the text that a program is printed as. `x ks` are the pieces of the part x with the pieces ks after
-- them. A number that names nothing, as no program has that a text reads as, is left out.
pub mod Names
pub mod Expressions
pub mod Statements
pub mod Procedures
