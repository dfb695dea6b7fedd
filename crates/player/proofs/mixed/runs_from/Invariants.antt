use Rattle.std.proofs.Common.{◌≡◌}
use Rattle.player.specs.Mixes.{runs_from}
use Rattle.player.proofs.mixed.runs_from.Given as goal

abbrev pub invariant-loop-process : goal.invariant-loop-process
invariant-loop-process l =
    runs_from l.sizes l.x l.y l.first l.initial.draws ≡ runs_from l.sizes l.x l.y l.process l.draws
