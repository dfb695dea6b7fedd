use Rattle.std.proofs.Common.{◌≡◌, ◌+◌, ◌≤◌, length}
use Rattle.deck_lines.specs.Lines.{lines_of}
use Rattle.finding_text.specs.DeckPlace.{pair_line, pair_among}
use Rattle.finding_text.proofs.deck_place.pair_line.Given as goal

-- what is left decides, and so many lines are passed
abbrev pub invariant-loop-line : goal.invariant-loop-line
invariant-loop-line l = record {
  left : pair_among l.name l.before (lines_of l.text) ≡ pair_line l.bytes l.name;
  passed : l.before + length l.text ≤ length l.bytes;
}

abbrev pub decreases-loop-line : goal.decreases-loop-line
decreases-loop-line l = length l.text
