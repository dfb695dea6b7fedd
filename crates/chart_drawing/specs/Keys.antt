-- What the shapes of a chart mean, below it. Our own.
use Rattle.std.specs.Prelude.{ℕ, ◌+◌, ◌*◌, List, [], ◌∷◌, ◌++◌, codes}
use Rattle.chart_drawing.specs.Signs.{sign_shapes}
use Rattle.chart_drawing.specs.Standings.{bar_round}
use Rattle.chart_drawing.specs.declared.drawn.Sign.{Sign}
use Rattle.chart_drawing.specs.declared.drawn.Sign.TheVariants.{Dot, Cross, Letter}
use Rattle.svg_text.specs.declared.drawing.Group.{Group}
use Rattle.svg_text.specs.declared.drawing.Shape.{Shape}
use Rattle.svg_text.specs.declared.drawing.Shape.TheVariants.{Line, Words}
use Rattle.svg_text.specs.declared.looks.Look.{Look}
use Rattle.svg_text.specs.declared.looks.Look.TheVariants as look

-- Rows of keys

abbrev pub key_y : ℕ → ℕ → ℕ
key_y bottom row = bottom + 24 + 16 * row

abbrev pub key_shape : ℕ → ℕ → List ℕ → Shape
key_shape bottom row words = Words look.Key (record { x = 44; y = key_y bottom row + 4 }) words

unfoldable pub sign_key : ℕ → ℕ → Sign → List ℕ → List Shape
sign_key bottom row sign words =
    sign_shapes sign (record { x = 20; y = key_y bottom row }) ++ key_shape bottom row words ∷ []

unfoldable pub line_key : ℕ → ℕ → Look → List ℕ → List Shape
line_key bottom row look words =
    Line look (record { x = 6; y = key_y bottom row }) (record { x = 34; y = key_y bottom row })
    ∷ key_shape bottom row words ∷ []

unfoldable pub bar_key : ℕ → ℕ → Look → ℕ → ℕ → List ℕ → List Shape
bar_key bottom row look width height words =
    bar_round look (record { x = 20; y = key_y bottom row }) width height ∷ key_shape bottom row words ∷ []

-- All keys

unfoldable pub entry_keys : ℕ → List Shape
entry_keys bottom =
    sign_key bottom 0 (Letter 69) (codes "a terminal enters a request")
    ++ sign_key bottom 1 (Letter 82) (codes "a terminal prints a reply")
    ++ sign_key bottom 2 (Letter 67) (codes "a process comes to its CHECKPOINT")
    ++ sign_key bottom 3 (Letter 80) (codes "a backup puts the checkpoint in")
    ++ sign_key bottom 4 (Letter 84) (codes "a backup takes over")

unfoldable pub node_keys : ℕ → List Shape
node_keys bottom =
    sign_key bottom 5 (Letter 77) (codes "a node marks a processor as down")
    ++ sign_key bottom 6 (Letter 87) (codes "a disc writes a sector")
    ++ sign_key bottom 7 (Letter 68) (codes "a drive fails or is revived or copied")

unfoldable pub sign_keys : ℕ → List Shape
sign_keys bottom =
    sign_key bottom 8 Dot (codes "anything else")
    ++ sign_key bottom 9 Cross (codes "a processor stops or a packet ends")

unfoldable pub line_keys : ℕ → List Shape
line_keys bottom =
    line_key bottom 10 look.Message (codes "a message")
    ++ line_key bottom 11 look.Thin (codes "any other packet that comes")
    ++ line_key bottom 12 look.Alive (codes "an alive packet that comes")
    ++ line_key bottom 13 look.Lost (codes "a packet that is lost or dropped")
    ++ line_key bottom 14 look.Hold (codes "a node pulls the hold line of a processor")

unfoldable pub bar_keys : ℕ → List Shape
bar_keys bottom =
    bar_key bottom 15 look.Acting 8 14 (codes "a copy that acts")
    ++ bar_key bottom 16 look.Watching 4 14 (codes "a copy that watches")
    ++ bar_key bottom 17 look.Gone 2 2 (codes "a copy that is gone with its processor")

abbrev pub key_group : ℕ → Group
key_group bottom = record {
  title = [];
  shapes = entry_keys bottom ++ node_keys bottom ++ sign_keys bottom ++ line_keys bottom ++ bar_keys bottom;
}
