-- How signs are drawn: a dot, a cross, or a letter in a circle. Our own.
use Rattle.std.specs.Prelude.{ℕ, ◌+◌, ◌-◌, List, [], ◌∷◌}
use Rattle.chart_drawing.specs.declared.drawn.Sign.{Sign}
use Rattle.chart_drawing.specs.declared.drawn.Sign.TheVariants.{Dot, Cross, Letter}
use Rattle.svg_text.specs.declared.drawing.Shape.{Shape}
use Rattle.svg_text.specs.declared.drawing.Shape.TheVariants as shape
use Rattle.svg_text.specs.declared.drawing.Spot.{Spot}
use Rattle.svg_text.specs.declared.looks.Look.TheVariants as look

abbrev pub dot : Spot → Shape
dot at = shape.Circle look.Dot at 2

abbrev pub stroke : ℕ → ℕ → ℕ → ℕ → Shape
stroke x1 y1 x2 y2 = shape.Line look.Stroke (record { x = x1; y = y1 }) (record { x = x2; y = y2 })

abbrev pub cross_shapes : Spot → List Shape
cross_shapes at =
    stroke (at.x - 4) (at.y - 4) (at.x + 4) (at.y + 4) ∷ stroke (at.x - 4) (at.y + 4) (at.x + 4) (at.y - 4) ∷ []

abbrev pub letter_shapes : ℕ → Spot → List Shape
letter_shapes letter at =
    shape.Circle look.Token at 6 ∷ shape.Words look.Letter (record { x = at.x; y = at.y + 3 }) (letter ∷ []) ∷ []

abbrev pub sign_shapes : Sign → Spot → List Shape
sign_shapes Dot at = dot at ∷ []
sign_shapes Cross at = cross_shapes at
sign_shapes (Letter letter) at = letter_shapes letter at
