use Rattle.std.proofs.Common.{◌≡◌, drop}
use Rattle.std.specs.List.{list_any}
use Rattle.path_semantics.specs.Reached.{breaks_next}
use Rattle.path_semantics.proofs.paths.any_breaks.Given as goal

abbrev pub invariant-loop-stand : goal.invariant-loop-stand
invariant-loop-stand l =
    list_any (breaks_next l.program l.reason l.number) (drop l.stand-index l.stands)
    ≡ list_any (breaks_next l.program l.reason l.number) l.stands
