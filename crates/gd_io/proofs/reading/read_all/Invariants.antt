use Rattle.std.proofs.Common.{◌≡◌, ◌+◌, ◌-◌, ◌≤◌, length, vec_len}
use Rattle.std.specs.Io.KnownBytes.{Consumes}
use Rattle.gd_io.proofs.reading.read_all.Given as goal

-- the bytes so far are the first ones that were left, and at most one too many; the count is no lower, and the same of
-- a source that is sure
abbrev pub invariant-loop-room : goal.invariant-loop-room
invariant-loop-room g l =
    (length l.bytes.items ≤ l.most + 1)
    × Consumes (g.S.Source.left l.fn.source) (g.S.Source.left l.source) l.bytes.items
    × (g.S.Source.faults l.fn.source ≤ g.S.Source.faults l.source)
    × (g.S.Source.sure l.fn.source → g.S.Source.sure l.source
    × (g.S.Source.faults l.source ≡ g.S.Source.faults l.fn.source))

abbrev pub decreases-loop-room : goal.decreases-loop-room
decreases-loop-room g l = l.most + 1 - vec_len l.bytes
