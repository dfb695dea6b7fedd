use Rattle.std.proofs.Common.{◌≡◌, ◌++◌, take}
use Rattle.program_entries.specs.Entries.{entries_in}
use Rattle.program_entries.proofs.entries.+entries.Given as goal

abbrev pub invariant-push_entries-loop-statement : goal.invariant-push_entries-loop-statement
invariant-push_entries-loop-statement l = l.entries ≡ l.fn.entries ++ entries_in (take l.statement-index l.statements)
