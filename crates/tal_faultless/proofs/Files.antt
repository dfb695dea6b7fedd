-- The files that OPENs add: what their variables are declared as, their numbers, and their depths.
pub mod FileGlobals
pub mod FileMeanings
pub mod FileNames
pub mod FileWalks
pub mod OpenDepths
