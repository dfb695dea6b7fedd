use Rattle.std.proofs.Common.{◌≡◌, ◌++◌, take, drop, map, replicate, false}
use Rattle.alive_regroup.specs.Watching.{is_silent, neighbour_after_check}
use Rattle.alive_regroup.proofs.watch.check_all.Given as goal

abbrev pub invariant-loop-place : goal.invariant-loop-place
invariant-loop-place l =
    (l.neighbours ≡ map neighbour_after_check (take l.place l.initial.neighbours) ++ drop l.place l.initial.neighbours)
    × (l.members ≡ map (λ one. is_silent (neighbour_after_check one)) (take l.place l.initial.neighbours)
    ++ drop l.place (replicate 16 false))
