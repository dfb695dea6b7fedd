-- How what is drawn looks: all is black, white and grey, so that it reads in print. Our own.
use Rattle.std.specs.Prelude.{ℕ, List, [], ◌∷◌, ◌++◌, codes, flat_map}
use Rattle.svg_text.specs.Escapes.{escaped_text}
use Rattle.svg_text.specs.declared.looks.Look.{Look}
use Rattle.svg_text.specs.declared.looks.Look.TheVariants as look

abbrev pub look_name : Look → List ℕ
look_name look.Lane = codes "lane"
look_name look.Acting = codes "acting"
look_name look.Watching = codes "watching"
look_name look.Gone = codes "gone"
look_name look.Name = codes "name"
look_name look.Event = codes "event"
look_name look.Message = codes "message"
look_name look.Lost = codes "lost"
look_name look.Thin = codes "thin"
look_name look.Alive = codes "alive"
look_name look.Stroke = codes "stroke"
look_name look.Dot = codes "dot"
look_name look.Token = codes "token"
look_name look.Letter = codes "letter"
look_name look.Hold = codes "hold"
look_name look.Key = codes "key"

abbrev pub look_style : Look → List ℕ
look_style look.Lane = codes "stroke:#999"
look_style look.Acting = codes "fill:#777;shape-rendering:crispEdges"
look_style look.Watching = codes "fill:#bbb;shape-rendering:crispEdges"
look_style look.Gone = codes "fill:#999"
look_style look.Name = codes "font-weight:bold;text-anchor:middle"
look_style look.Event = codes "fill:#444"
look_style look.Message = codes "stroke:#000;stroke-width:1.5;marker-end:url(#head)"
look_style look.Lost = codes "stroke:#000;stroke-width:1.5;stroke-dasharray:5 3"
look_style look.Thin = codes "stroke:#000;stroke-width:0.5;marker-end:url(#head)"
look_style look.Alive = codes "stroke:#000;stroke-width:0.5;stroke-dasharray:1 3;marker-end:url(#head)"
look_style look.Stroke = codes "stroke:#000;stroke-width:2"
look_style look.Dot = codes "fill:#000"
look_style look.Token = codes "fill:#fff;stroke:#000"
look_style look.Letter = codes "font-size:9px;font-weight:bold;text-anchor:middle"
look_style look.Hold = codes "stroke:#000;stroke-width:3;stroke-dasharray:2 2"
look_style look.Key = codes "fill:#000"

abbrev pub all_looks : List Look
all_looks =
    look.Lane ∷ look.Acting ∷ look.Watching ∷ look.Gone ∷ look.Name ∷ look.Event ∷ look.Message ∷ look.Lost
    ∷ look.Thin ∷ look.Alive ∷ look.Stroke ∷ look.Dot ∷ look.Token ∷ look.Letter ∷ look.Hold ∷ look.Key ∷ []

-- what the style sheet says of a look
abbrev pub rule_text : Look → List ℕ
rule_text look =
    escaped_text (codes ".") ++ escaped_text (look_name look) ++ escaped_text (codes "{")
    ++ escaped_text (look_style look) ++ escaped_text (codes "}\n")

-- the style sheet: of all texts, and of each look
abbrev pub style_text : List ℕ
style_text = escaped_text (codes "\ntext{font:11px sans-serif}\n") ++ flat_map rule_text all_looks
