use Rattle.std.proofs.Common.{◌≡◌, take}
use Rattle.tal_tree.specs.Rows.{rows}
use Rattle.path_semantics.specs.Bounds.{told}
use Rattle.flow_paths.specs.Layout.{size_row, size_at}
use Rattle.flow_paths.proofs.size.+size.Given as goal

abbrev pub invariant-size_of_all-loop-statement : goal.invariant-size_of_all-loop-statement
invariant-size_of_all-loop-statement l =
    l.size ≡ told (size_row (size_at l.sizes) (rows (take l.statement-index l.statements)))
