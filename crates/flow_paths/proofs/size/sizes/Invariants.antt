use Rattle.std.proofs.Common.{◌≡◌, length}
use Rattle.path_semantics.specs.Bounds.{sizes}
use Rattle.flow_paths.proofs.Told.{TellsSizes}
use Rattle.flow_paths.proofs.size.sizes.Given as goal

-- the sizes so far lead to all
abbrev pub invariant-loop-procedure : goal.invariant-loop-procedure
invariant-loop-procedure l = record {
  leads : TellsSizes l.procedures l.procedure-index (sizes l.program) l.sizes.items;
  count : length l.sizes.items ≡ l.procedure-index;
}
