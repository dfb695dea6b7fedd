use Rattle.std.proofs.Common.{◌≡◌, take}
use Rattle.alive_regroup.specs.Listening.{all_heard}
use Rattle.alive_regroup.proofs.watch.hear_all.Given as goal

abbrev pub invariant-loop-place : goal.invariant-loop-place
invariant-loop-place l = l.neighbours ≡ all_heard (take l.place l.heard) l.initial.neighbours
