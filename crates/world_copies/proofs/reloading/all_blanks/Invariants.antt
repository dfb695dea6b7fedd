use Rattle.std.proofs.Common.{◌≡◌, map, take}
use Rattle.process_copies.specs.Reloading.{blanks_of}
use Rattle.world_copies.proofs.reloading.all_blanks.Given as goal

abbrev pub invariant-loop-process : goal.invariant-loop-process
invariant-loop-process l = l.all.items ≡ map (blanks_of l.processor) (take l.process-index l.processes)
