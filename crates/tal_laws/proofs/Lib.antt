-- Why the laws hold. `Counting`: where numbers count up, each stands once. `Following`,
-- `Layers`, `Plain` and `Bodies`: those of statements without faults go on, and earlier procedures are called.
-- `Procedures` and `Ordered`: so a program is numbered and ordered. `Items`, `Locals`, `Depths` and `Uses`: what its
-- parts are. `WithinLimits` puts these together. `Known` and `Meant`: what the names of a scope stand for is there.
-- `There`, `Mentioned`, `Called` and `Everywhere`: so is what statements name. `Regular` puts these together.
pub mod Bodies
pub mod Called
pub mod Counting
pub mod Depths
pub mod Everywhere
pub mod Following
pub mod Items
pub mod Known
pub mod Layers
pub mod Locals
pub mod Meant
pub mod Mentioned
pub mod Ordered
pub mod Plain
pub mod Procedures
pub mod Regular
pub mod There
pub mod Uses
pub mod WithinLimits
