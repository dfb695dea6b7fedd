use Rattle.std.proofs.Common.{◌≡◌, ◌++◌, flat_map, take}
use Rattle.svg_text.specs.Shapes.{shape_text}
use Rattle.svg_text.proofs.shapes.put_shapes.Given as goal

abbrev pub invariant-loop-shape : goal.invariant-loop-shape
invariant-loop-shape l = l.text ≡ l.initial.text ++ flat_map shape_text (take l.shape-index l.shapes)
