-- The text of a drawing is a document.
use Rattle.std.proofs.Common.{ℕ, List, [], ◌∷◌, codes, flat_map, refl}
use Rattle.std.specs.Fmt.{decimal}
use Rattle.svg_text.specs.Looks.{style_text}
use Rattle.svg_text.specs.Shapes.{group_text}
use Rattle.svg_text.specs.Sheets.{drawing_text, head_text, marker_attributes, path_text, root_attributes, sheet_text}
use Rattle.svg_text.specs.Sheets.{style_sheet, view_box}
use Rattle.svg_text.specs.Xml.{AreAttributes, IsContent, IsDocument, in_element, in_empty}
use Rattle.svg_text.specs.declared.drawing.Drawing.{Drawing}
use Rattle.svg_text.proofs.Content.{all_content, bare_content, first, group_content, line_end, more, style_content}
use Rattle.svg_text.proofs.Content.{turn}

path_content : IsContent path_text
path_content = in_empty (codes "path") refl (first (codes "d") (codes "M0 1L8 4L0 7z") refl)

abbrev marker_names : List (List ℕ)
marker_names =
    codes "orient" ∷ codes "markerUnits" ∷ codes "markerHeight" ∷ codes "markerWidth" ∷ codes "refY" ∷ codes "refX"
    ∷ codes "viewBox" ∷ codes "id" ∷ []

marker_is : AreAttributes marker_names marker_attributes
marker_is =
    more _ _ (codes "orient") (codes "auto")
    (more _ _ (codes "markerUnits") (codes "userSpaceOnUse")
    (more _ _ (codes "markerHeight") (codes "8")
    (more _ _ (codes "markerWidth") (codes "8")
    (more _ _ (codes "refY") (codes "4")
    (more _ _ (codes "refX") (codes "8")
    (more _ _ (codes "viewBox") (codes "0 0 8 8") (first (codes "id") (codes "head") refl) refl refl)
    refl refl) refl refl) refl refl) refl refl) refl refl) refl refl

head_content : IsContent head_text
head_content =
    bare_content (codes "defs") _ refl
    (in_element {attributes = marker_attributes} {inside = path_text} (codes "marker") refl marker_is
    path_content)

abbrev root_names : List (List ℕ)
root_names = codes "viewBox" ∷ codes "height" ∷ codes "width" ∷ codes "xmlns" ∷ []

root_is : (width height : ℕ) → AreAttributes root_names (root_attributes width height)
root_is width height =
    more _ _ (codes "viewBox") (view_box width height)
    (more _ _ (codes "height") (decimal height)
    (more _ _ (codes "width") (decimal width)
    (first (codes "xmlns") (codes "http://www.w3.org/2000/svg") refl) refl refl) refl refl) refl refl

sheet_content : (drawing : Drawing) → IsContent (sheet_text drawing)
sheet_content drawing =
    turn _ (flat_map group_text drawing.groups)
    (turn _ (group_text drawing.under)
    (turn _ (codes "\n")
    (turn style_sheet head_text (bare_content (codes "style") style_text refl style_content) head_content) line_end)
    (group_content drawing.under))
    (all_content group_text group_content drawing.groups)

pub drawing_is : (drawing : Drawing) → IsDocument (drawing_text drawing)
drawing_is drawing = record {
  names = root_names;
  name = codes "svg";
  attributes = root_attributes drawing.width drawing.height;
  inside = sheet_text drawing;
  is_named = refl;
  are_attributes = root_is drawing.width drawing.height;
  is_content = sheet_content drawing;
  is = refl;
}
