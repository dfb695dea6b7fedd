use Rattle.std.proofs.Common.{◌≡◌, inl, inr, arith, ap, refl}
use Rattle.std.specs.Prelude.{max}
use Rattle.tal_tree.specs.declared.expression.Spot.{Local}
use Rattle.tal_tree.specs.declared.statement.What.{What-F, out-What}
use Rattle.tal_tree.specs.declared.statement.What.TheBlock.{shape-the_row-Statement-0, hidden-the_row-Statement-0}
use Rattle.tal_tree.specs.declared.statement.What.TheVariants as what
use Rattle.tal_tree.specs.declared.statement.What.TheViews.{rolls-Assign}
use Rattle.tal_laws.proofs.Layers.{layer_of}
use denote.Hole.Carrier.{hidden}
use Rattle.tal_code.specs.Waiting.{waiting_of, waiting_at}
use Rattle.code_room.specs.Examples.{nested, numbered}
use Rattle.code_room.proofs.Guarded.{nested_wait}
use Rattle.code_room.proofs.guards.statements_inside_others_count.Goals as goal

inside : waiting_at (out-What (what.Assign (Local 0) (nested 1))) ≡ max 0 (waiting_of (nested 1))
inside = ap waiting_at (layer_of (what.Assign (Local 0) (nested 1)) (What-F.Assign (Local 0) (nested 1))
    (rolls-Assign (Local 0) (nested 1)))

pub returns : goal.returns
unfolding shape-the_row-Statement-0 hidden-the_row-Statement-0 hidden
returns c few = omega (
  arith,
  few 1 _ refl (numbered 3 (what.Assign (Local 0) (nested 1))) (inr (inr (inl refl))),
  inside,
  nested_wait 1,
)
