use Rattle.std.proofs.Common.{◌≡◌, ◌++◌, take}
use Rattle.finding_text.specs.Lacking.{lacks_text}
use Rattle.finding_text.proofs.lacking.put_lacks.Given as goal

abbrev pub invariant-loop-named : goal.invariant-loop-named
invariant-loop-named l = l.text ≡ l.fn.text ++ lacks_text l.start l.program (take l.named-index l.checkpoints) l.advised
