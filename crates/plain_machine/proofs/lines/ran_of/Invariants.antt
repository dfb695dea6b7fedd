use Rattle.std.proofs.Common.{◌≡◌, ◌+◌, ◌<◌, drop}
use Rattle.plain_machine.specs.Lines.{run_of, lines_played}
use Rattle.plain_machine.specs.Writes.{most_write, lines_acts}
use Rattle.plain_machine.proofs.lines.ran_of.Given as goal

abbrev pub invariant-loop-line : goal.invariant-loop-line
invariant-loop-line l =
    (run_of l.site l.lines ≡ lines_played l.site (drop l.line-index l.lines) l.ran)
    × (most_write l.ran.plain.processes + lines_acts l.site (drop l.line-index l.lines) < 4294967296)
