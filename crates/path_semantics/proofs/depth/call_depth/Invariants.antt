use Rattle.std.proofs.Common.{◌≡◌, ◌≤◌, length, drop}
use Rattle.path_semantics.specs.Bounds.{greatest, depth_from, in_order, depths}
use Rattle.path_semantics.proofs.depth.call_depth.Given as goal

-- the depths so far lead to all, and none is greater than their count
abbrev pub invariant-loop-procedure : goal.invariant-loop-procedure
invariant-loop-procedure l = record {
  leads : in_order depth_from l.depths.items (drop l.procedure-index l.procedures) ≡ depths l.program;
  count : length l.depths.items ≡ l.procedure-index;
  most : greatest l.depths.items ≤ l.procedure-index;
}
