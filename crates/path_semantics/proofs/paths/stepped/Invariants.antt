use Rattle.std.proofs.Common.{◌≡◌, take}
use Rattle.std.specs.Prelude.{flat_map}
use Rattle.path_semantics.specs.Reached.{stepped}
use Rattle.path_semantics.proofs.paths.stepped.Given as goal

abbrev pub invariant-loop-stand : goal.invariant-loop-stand
invariant-loop-stand l = l.all.items ≡ flat_map (stepped l.program l.number) (take l.stand-index l.stands)
