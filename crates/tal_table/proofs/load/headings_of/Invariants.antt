use Rattle.std.proofs.Common.{◌≡◌, take, map}
use Rattle.tal_table.specs.Loads.{heading_of}
use Rattle.tal_table.proofs.load.headings_of.Given as goal

abbrev pub invariant-loop-procedure : goal.invariant-loop-procedure
invariant-loop-procedure l = l.headings.items ≡ map heading_of (take l.procedure-index l.procedures)
