-- Printed values, conditions and lists of values read back, no deeper than they were.
pub mod Back
pub mod Chains
pub mod Deepest
pub mod Depths
pub mod Layers
pub mod ListBack
pub mod NamedIn
pub mod ReadsBack
pub mod TestBack
pub mod TestChains
pub mod TestDeepest
pub mod TestDepths
pub mod TestsReadBack
pub mod ValueLists
pub mod Views
