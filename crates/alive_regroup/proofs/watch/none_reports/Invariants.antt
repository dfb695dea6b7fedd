use Rattle.std.proofs.Common.{◌≡◌, ◌++◌, take, drop, map}
use Rattle.alive_regroup.specs.Watching.{neighbour_after_up_of}
use Rattle.alive_regroup.proofs.watch.none_reports.Given as goal

abbrev pub invariant-loop-place : goal.invariant-loop-place
invariant-loop-place l =
    l.neighbours
    ≡ map (neighbour_after_up_of l.processor) (take l.place l.initial.neighbours) ++ drop l.place l.initial.neighbours
