use Rattle.std.proofs.Common.{◌≡◌, drop}
use Rattle.path_semantics.specs.Reached.{reached, reached_from}
use Rattle.path_semantics.proofs.paths.reached.Given as goal

abbrev pub invariant-loop-number : goal.invariant-loop-number
invariant-loop-number l = reached_from l.program l.stands.items (drop l.number-index l.path) ≡ reached l.program l.path
