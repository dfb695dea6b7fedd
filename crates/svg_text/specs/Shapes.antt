-- What is drawn, as elements of SVG 1.1 (W3C).
use Rattle.std.specs.Prelude.{ℕ, List, [], ◌∷◌, ◌++◌, codes, flat_map}
use Rattle.svg_text.specs.Escapes.{escaped_text, numbered, worded}
use Rattle.svg_text.specs.Looks.{look_name}
use Rattle.svg_text.specs.Xml.{element, empty_element, end_tag, start_of_tag}
use Rattle.svg_text.specs.declared.drawing.Group.{Group}
use Rattle.svg_text.specs.declared.drawing.Shape.{Shape}
use Rattle.svg_text.specs.declared.drawing.Shape.TheVariants.{Line, Bar, Circle, Words}
use Rattle.svg_text.specs.declared.drawing.Spot.{Spot}
use Rattle.svg_text.specs.declared.looks.Look.{Look}

-- Attributes

abbrev pub look_attribute : Look → List ℕ
look_attribute look = worded (codes "class") (look_name look)

abbrev pub line_attributes : Look → Spot → Spot → List ℕ
line_attributes look from to =
    look_attribute look ++ numbered (codes "x1") from.x ++ numbered (codes "y1") from.y ++ numbered (codes "x2") to.x
    ++ numbered (codes "y2") to.y

abbrev pub bar_attributes : Look → Spot → ℕ → ℕ → List ℕ
bar_attributes look at width height =
    look_attribute look ++ numbered (codes "x") at.x ++ numbered (codes "y") at.y ++ numbered (codes "width") width
    ++ numbered (codes "height") height

abbrev pub circle_attributes : Look → Spot → ℕ → List ℕ
circle_attributes look at radius =
    look_attribute look ++ numbered (codes "cx") at.x ++ numbered (codes "cy") at.y ++ numbered (codes "r") radius

abbrev pub words_attributes : Look → Spot → List ℕ
words_attributes look at = look_attribute look ++ numbered (codes "x") at.x ++ numbered (codes "y") at.y

-- Elements

abbrev pub shape_text : Shape → List ℕ
shape_text (Line look from to) = empty_element (codes "line") (line_attributes look from to)
shape_text (Bar look at width height) = empty_element (codes "rect") (bar_attributes look at width height)
shape_text (Circle look at radius) = empty_element (codes "circle") (circle_attributes look at radius)
shape_text (Words look at words) = element (codes "text") (words_attributes look at) (escaped_text words)

-- an element without attributes
abbrev pub bare_element : List ℕ → List ℕ → List ℕ
bare_element name inside = start_of_tag name ++ codes ">" ++ inside ++ end_tag name

-- a title, if there is one
abbrev pub title_text : List ℕ → List ℕ
title_text [] = []
title_text (sign ∷ rest) = bare_element (codes "title") (escaped_text (sign ∷ rest))

abbrev pub group_text : Group → List ℕ
group_text group = bare_element (codes "g") (title_text group.title ++ flat_map shape_text group.shapes) ++ codes "\n"
