use Rattle.std.proofs.Common.{◌≡◌, false, take}
use Rattle.alive_regroup.proofs.listener.differ.Given as goal

abbrev pub invariant-loop-place : goal.invariant-loop-place
invariant-loop-place l = l.differs ≡ false → take l.place l.first ≡ take l.place l.second
