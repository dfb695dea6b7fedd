-- The entries that a stack shows: its last is the next.
use Rattle.std.specs.Prelude.{List, map, reverse}
use Rattle.process_semantics.specs.declared.entry.Entry.{Entry as Borrowed}
use Rattle.process_semantics.specs.declared.entry.Entry.TheVariants as borrowed
use Rattle.process_semantics.specs.State.{Entry, Run, Test, Last}

-- the entry of a borrowed statement
abbrev pub entry_of : Borrowed → Entry
entry_of (borrowed.Run statement) = Run statement.now
entry_of (borrowed.Test statement) = Test statement.now
entry_of (borrowed.Last statement) = Last statement.now

-- the entries of a stack, the next first
abbrev pub stack : List Borrowed → List Entry
stack entries = map entry_of (reverse entries)
