use Rattle.std.proofs.Common.{◌≡◌, ◌++◌, take, drop, map, replicate, false}
use Rattle.alive_regroup.specs.Watching.{is_up}
use Rattle.alive_regroup.proofs.watch.all_up.Given as goal

abbrev pub invariant-loop-place : goal.invariant-loop-place
invariant-loop-place l = l.members ≡ map is_up (take l.place l.neighbours) ++ drop l.place (replicate 16 false)
