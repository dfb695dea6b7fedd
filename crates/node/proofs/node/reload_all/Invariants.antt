use Rattle.std.proofs.Common.{◌≡◌, ◌++◌, take, drop, map}
use Rattle.link_control.specs.Ends.{end_after_reload}
use Rattle.node.proofs.node.reload_all.Given as goal

abbrev pub invariant-loop-end : goal.invariant-loop-end
invariant-loop-end l =
    l.ends ≡ map (end_after_reload l.loaded) (take l.end-index l.initial.ends) ++ drop l.end-index l.initial.ends
