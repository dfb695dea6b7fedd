use Rattle.std.proofs.Common.{◌≡◌, reverse, vec_len}
use Rattle.path_semantics.specs.Place.{stand_at}
use Rattle.path_semantics.proofs.stand.stand_at.Given as goal

abbrev pub invariant-loop-callers : goal.invariant-loop-callers
invariant-loop-callers l =
    stand_at l.running (reverse l.callers.items) l.dues
    ≡ stand_at l.initial.running (reverse l.initial.callers.items) l.initial.dues

abbrev pub decreases-loop-callers : goal.decreases-loop-callers
decreases-loop-callers l = vec_len l.callers
