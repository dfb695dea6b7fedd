use Rattle.std.proofs.Common.{◌≡◌, ◌++◌, length}
use Rattle.left_text.specs.LeftText.{process_lines}
use Rattle.left_text.proofs.process_ends.put_processes.Given as goal

abbrev pub invariant-loop-spec : goal.invariant-loop-spec
invariant-loop-spec l =
    l.text ++ process_lines l.bytes l.all l.specs_left l.lefts_left l.steps_left
    ≡ l.fn.text ++ process_lines l.bytes l.all l.specs l.lefts l.steps

abbrev pub decreases-loop-spec : goal.decreases-loop-spec
decreases-loop-spec l = length l.specs_left
