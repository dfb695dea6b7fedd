use Rattle.std.proofs.Common.{◌≡◌, ◌++◌, length}
use Rattle.finding_text.specs.PairText.{pair_texts}
use Rattle.finding_text.proofs.pairs.put_pairs.Given as goal

abbrev pub invariant-loop-spec : goal.invariant-loop-spec
invariant-loop-spec l =
    l.text ++ pair_texts l.bytes l.specs_left l.findings_left ≡ l.fn.text ++ pair_texts l.bytes l.specs l.findings

abbrev pub decreases-loop-spec : goal.decreases-loop-spec
decreases-loop-spec l = length l.specs_left
