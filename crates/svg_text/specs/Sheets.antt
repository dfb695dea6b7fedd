-- A whole drawing, as one SVG.
use Rattle.std.specs.Prelude.{ℕ, List, ◌++◌, codes, flat_map}
use Rattle.std.specs.Fmt.{decimal}
use Rattle.svg_text.specs.Escapes.{numbered, worded}
use Rattle.svg_text.specs.Looks.{style_text}
use Rattle.svg_text.specs.Shapes.{bare_element, group_text}
use Rattle.svg_text.specs.Xml.{element, empty_element}
use Rattle.svg_text.specs.declared.drawing.Drawing.{Drawing}

-- Heads of arrows

abbrev pub marker_place : List ℕ
marker_place =
    worded (codes "id") (codes "head") ++ worded (codes "viewBox") (codes "0 0 8 8")
    ++ worded (codes "refX") (codes "8") ++ worded (codes "refY") (codes "4")

abbrev pub marker_size : List ℕ
marker_size =
    worded (codes "markerWidth") (codes "8") ++ worded (codes "markerHeight") (codes "8")
    ++ worded (codes "markerUnits") (codes "userSpaceOnUse") ++ worded (codes "orient") (codes "auto")

abbrev pub marker_attributes : List ℕ
marker_attributes = marker_place ++ marker_size

abbrev pub path_text : List ℕ
path_text = empty_element (codes "path") (worded (codes "d") (codes "M0 1L8 4L0 7z"))

abbrev pub head_text : List ℕ
head_text = bare_element (codes "defs") (element (codes "marker") marker_attributes path_text)

-- The whole

abbrev pub view_box : ℕ → ℕ → List ℕ
view_box width height = codes "0 0 " ++ decimal width ++ codes " " ++ decimal height

abbrev pub root_attributes : ℕ → ℕ → List ℕ
root_attributes width height =
    worded (codes "xmlns") (codes "http://www.w3.org/2000/svg") ++ numbered (codes "width") width
    ++ numbered (codes "height") height ++ worded (codes "viewBox") (view_box width height)

abbrev pub style_sheet : List ℕ
style_sheet = bare_element (codes "style") style_text

abbrev pub sheet_text : Drawing → List ℕ
sheet_text drawing =
    style_sheet ++ head_text ++ codes "\n" ++ group_text drawing.under ++ flat_map group_text drawing.groups

abbrev pub root_text : Drawing → List ℕ
root_text drawing =
    element (codes "svg") (root_attributes drawing.width drawing.height) (sheet_text drawing)

abbrev pub drawing_text : Drawing → List ℕ
drawing_text drawing = root_text drawing ++ codes "\n"
