use Rattle.std.proofs.Common.{◌≡◌, take, map}
use Rattle.advice_search.specs.Lists.{advised}
use Rattle.advice_search.proofs.lists.lists_of.Given as goal

abbrev pub invariant-loop-checkpoint : goal.invariant-loop-checkpoint
invariant-loop-checkpoint l = l.lists ≡ map
    (λ checkpoint. advised l.program l.items.sets.items l.files.sets.items checkpoint)
    (take l.checkpoint-index l.checkpoints)
