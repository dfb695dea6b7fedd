use Rattle.std.proofs.Common.{◌≡◌, take, flat_map}
use Rattle.advice_search.specs.Lists.{places_of}
use Rattle.advice_search.proofs.checkpoints.checkpoints_of.Given as goal

abbrev pub invariant-loop-procedure : goal.invariant-loop-procedure
invariant-loop-procedure l =
    l.found ≡ flat_map (λ procedure. places_of procedure.body) (take l.procedure-index l.procedures)
