use Rattle.std.proofs.Common.{◌≡◌, ◌++◌, take}
use Rattle.finding_text.specs.Carried.{carries_text}
use Rattle.finding_text.proofs.carried.put_carries.Given as goal

abbrev pub invariant-loop-named : goal.invariant-loop-named
invariant-loop-named l =
    l.text ≡ l.fn.text ++ carries_text l.bytes l.start l.program (take l.named-index l.checkpoints) l.advised
