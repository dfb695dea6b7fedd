use Rattle.std.proofs.Common.{◌≡◌, ◌++◌, length}
use Rattle.left_text.specs.LeftText.{terminal_lines}
use Rattle.left_text.proofs.terminals.put_terminals.Given as goal

abbrev pub invariant-loop-spec : goal.invariant-loop-spec
invariant-loop-spec l =
    l.text ++ terminal_lines l.specs_left l.all_left ≡ l.fn.text ++ terminal_lines l.specs l.all

abbrev pub decreases-loop-spec : goal.decreases-loop-spec
decreases-loop-spec l = length l.specs_left
