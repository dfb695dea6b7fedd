use Rattle.std.proofs.Common.{◌≡◌, flat_map, take}
use Rattle.process_semantics.specs.SeenEntries.{entry_of}
use Rattle.statement_dues.specs.Checkpoints.{named_at}
use Rattle.statement_dues.proofs.checkpoints.checkpoints_among.Given as goal

abbrev pub invariant-loop-entry : goal.invariant-loop-entry
invariant-loop-entry l = l.found ≡ flat_map (λ entry. named_at (entry_of entry)) (take l.entry-index l.entries)
