use Rattle.std.proofs.Common.{◌≡◌, length}
use Rattle.tal_values.specs.Seen.{memory_now}
use Rattle.program_ends.specs.Traps.{trap_among}
use Rattle.program_ends.proofs.traps.trap_among.Given as goal

abbrev pub invariant-loop-argument : goal.invariant-loop-argument
invariant-loop-argument l = trap_among (memory_now l.memory) l.left ≡ trap_among (memory_now l.memory) l.arguments

abbrev pub decreases-loop-argument : goal.decreases-loop-argument
decreases-loop-argument l = length l.left
