use Rattle.std.proofs.Common.{◌≡◌, ◌+◌, ◌++◌, length}
use Rattle.finding_text.specs.Lacking.{depths_text}
use Rattle.finding_text.proofs.lacking.put_depths.Given as goal

abbrev pub invariant-loop-depth : goal.invariant-loop-depth
invariant-loop-depth l = record {
  due : l.text ++ depths_text l.program l.file l.left ≡ l.fn.text ++ depths_text l.program 0 l.depths;
  counted : l.file + length l.left ≡ length l.depths;
}

abbrev pub decreases-loop-depth : goal.decreases-loop-depth
decreases-loop-depth l = length l.left
