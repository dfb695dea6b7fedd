use Rattle.std.proofs.Common.{◌≡◌, ◌-◌, length}
use Rattle.std.specs.Prelude.{slice_get}
use Rattle.deck_lines.specs.Lines.{lines_of}
use Rattle.fault_words.proofs.place.line_at.Given as goal

-- the line is that of the lines left which so many precede
abbrev pub invariant-loop-line : goal.invariant-loop-line
invariant-loop-line l = slice_get (lines_of l.text) l.before ≡ slice_get (lines_of l.bytes) (l.number - 1)

abbrev pub decreases-loop-line : goal.decreases-loop-line
decreases-loop-line l = length l.text
