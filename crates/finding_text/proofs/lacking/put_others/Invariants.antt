use Rattle.std.proofs.Common.{◌≡◌, ◌++◌, take}
use Rattle.finding_text.specs.Lacking.{others_text}
use Rattle.finding_text.proofs.lacking.put_others.Given as goal

abbrev pub invariant-loop-listed : goal.invariant-loop-listed
invariant-loop-listed l = l.text ≡ l.fn.text ++ others_text l.program (take l.listed-index l.others)
