use Rattle.std.proofs.Common.{◌≡◌, take, flat_map}
use Rattle.program_entries.specs.Entries.{entries_in}
use Rattle.program_entries.proofs.entries.entries_of.Given as goal

abbrev pub invariant-loop-procedure : goal.invariant-loop-procedure
invariant-loop-procedure l =
    l.entries ≡ flat_map (λ procedure. entries_in procedure.body) (take l.procedure-index l.procedures)
