-- The parts of the grammar with which tokens begin, with the tokens after them: as far as the tokens go on to be of the
-- part. Where a part may open levels, `n` of them are left.
pub mod Chains
pub mod Declarations
pub mod Expressions
pub mod Simple
pub mod Statements
pub mod Texts
pub use Chains.*
pub use Declarations.*
pub use Expressions.*
pub use Simple.*
pub use Statements.*
pub use Texts.*
