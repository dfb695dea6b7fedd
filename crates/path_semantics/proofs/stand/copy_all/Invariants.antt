use Rattle.std.proofs.Common.{◌≡◌, take}
use Rattle.path_semantics.proofs.stand.copy_all.Given as goal

abbrev pub invariant-loop-frame : goal.invariant-loop-frame
invariant-loop-frame l = l.all.items ≡ take l.frame-index l.frames
