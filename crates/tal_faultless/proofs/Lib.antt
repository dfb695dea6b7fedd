-- What texts without faults have: `Common` for the other groups, `Declarations` for items, `Files` for the files of
-- OPENs, `Scopes` for names.
pub mod Common
pub mod Declarations
pub mod Files
pub mod Scopes
