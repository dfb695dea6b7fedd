use Rattle.std.proofs.Common.{◌≡◌, ℕ, ◌+◌, ◌-◌, ◌≤◌, length, take}
use Rattle.std.specs.Io.KnownBytes.{Appends}
use Rattle.gd_io.proofs.writing.put_all.Given as goal

-- the first `at` bytes of the piece are held; a sink that was sure of all is sure of the rest
abbrev pub invariant-loop-at : goal.invariant-loop-at
invariant-loop-at g l =
    (l.at ≤ length l.piece)
    × Appends (g.K.Sink.held l.fn.sink) (g.K.Sink.held l.sink) (take l.at l.piece)
    × (g.K.Sink.faults l.fn.sink ≤ g.K.Sink.faults l.sink)
    × ((n : ℕ) → g.K.Sink.sure l.fn.sink (length l.piece + n)
    → g.K.Sink.sure l.sink (length l.piece - l.at + n) × (g.K.Sink.faults l.sink ≡ g.K.Sink.faults l.fn.sink))

abbrev pub decreases-loop-at : goal.decreases-loop-at
decreases-loop-at g l = length l.piece - l.at
