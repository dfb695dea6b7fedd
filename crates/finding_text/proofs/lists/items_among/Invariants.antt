use Rattle.std.proofs.Common.{◌≡◌, length}
use Rattle.pair_findings.specs.advice.specs.Answer.{items_among}
use Rattle.finding_text.proofs.lists.items_among.Given as goal

abbrev pub invariant-loop-one : goal.invariant-loop-one
invariant-loop-one l = items_among l.left l.number ≡ items_among l.advised l.number

abbrev pub decreases-loop-one : goal.decreases-loop-one
decreases-loop-one l = length l.left
