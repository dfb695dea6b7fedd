use Rattle.std.proofs.Common.{◌≡◌, map, take}
use Rattle.process_semantics.specs.SeenEntries.{entry_of}
use Rattle.statement_dues.specs.Deeds.{deed_of}
use Rattle.statement_dues.proofs.deeds.deeds_of_each.Given as goal

abbrev pub invariant-loop-entry : goal.invariant-loop-entry
invariant-loop-entry l = l.deeds ≡ map (λ entry. deed_of l.reason (entry_of entry)) (take l.entry-index l.entries)
