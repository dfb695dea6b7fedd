use Rattle.std.proofs.Common.{◌≡◌, ◌+◌, ◌≤◌, length}
use Rattle.deck_lines.specs.Lines.{lines_of}
use Rattle.deck_reader.specs.Outlined.{told_after, outline_of}
use Rattle.deck_reader.proofs.StageLemmas.{StageKeeps}
use Rattle.deck_reader.proofs.told.outline_of.Given as goal

-- the lines that are left lead on from this stage, which keeps the limits, as all lines lead
abbrev pub invariant-loop-line : goal.invariant-loop-line
invariant-loop-line l = (told_after l.stage l.number (lines_of l.text) ≡ outline_of (lines_of l.bytes))
    × (l.number + length l.text ≤ length l.bytes) × StageKeeps l.stage

abbrev pub decreases-loop-line : goal.decreases-loop-line
decreases-loop-line l = length l.text
