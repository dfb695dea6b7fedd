-- The sectors of a disc's device, and what a write makes of them: those of its drives.
pub use Rattle.mirror.specs.Sectors.{blank, blanks, is_of_write, is_written, stored_after}
pub use Rattle.mirror.specs.declared.stored.Stored.{Stored}
