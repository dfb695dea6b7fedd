use Rattle.std.proofs.Common.{◌≡◌, ◌++◌, length}
use Rattle.deck_lines.specs.Lines.{lines_of}
use Rattle.traced_decks.proofs.places.deck_lines.Given as goal

abbrev pub invariant-loop-line : goal.invariant-loop-line
invariant-loop-line l = l.lines ++ lines_of l.left ≡ lines_of l.bytes

abbrev pub decreases-loop-line : goal.decreases-loop-line
decreases-loop-line l = length l.left
