-- What a drawing is made of is well formed.
use Rattle.std.proofs.Common.{ℕ, List, [], ◌∷◌, ◌++◌, codes, flat_map, refl, subst}
use Rattle.std.proofs.lemmas.List.{append-nil}
use Rattle.std.specs.Fmt.{decimal}
use Rattle.std.specs.Prelude.{IsTrue, IsFalse}
use Rattle.svg_text.specs.Escapes.{escaped_text, worded}
use Rattle.svg_text.specs.Looks.{all_looks, look_name, look_style, rule_text, style_text}
use Rattle.svg_text.specs.Shapes.{bare_element, bar_attributes, circle_attributes, group_text, line_attributes}
use Rattle.svg_text.specs.Shapes.{look_attribute, shape_text, title_text, words_attributes}
use Rattle.svg_text.specs.Xml.{AreAttributes, IsContent, end_tag, in_element, in_empty, in_turn, in_words}
use Rattle.svg_text.specs.Xml.{is_name, is_one_of, no_attributes, one_more, start_of_tag}
use Rattle.svg_text.specs.declared.drawing.Group.{Group}
use Rattle.svg_text.specs.declared.drawing.Shape.{Shape}
use Rattle.svg_text.specs.declared.drawing.Shape.TheVariants.{Line, Bar, Circle, Words}
use Rattle.svg_text.specs.declared.drawing.Spot.{Spot}
use Rattle.svg_text.specs.declared.looks.Look.{Look}
use Rattle.svg_text.proofs.Words.{escaped_words}

-- Content

pub words_content : (words : List ℕ) → IsContent (escaped_text words)
words_content words = in_words (escaped_words words)

pub turn : (first second : List ℕ) → IsContent first → IsContent second → IsContent (first ++ second)
turn first second one other = in_turn {first = first} {second = second} one other

pub all_content : {A : Type 0} (f : A → List ℕ) → ((x : A) → IsContent (f x)) → (xs : List A)
    → IsContent (flat_map f xs)
all_content f each [] = words_content []
all_content f each (x ∷ xs) = turn (f x) (flat_map f xs) (each x) (all_content f each xs)

pub bare_content : (name inside : List ℕ) → IsTrue (is_name name) → IsContent inside
    → IsContent (bare_element name inside)
bare_content name inside is content =
    subst (λ (start : List ℕ). IsContent (start ++ codes ">" ++ inside ++ end_tag name))
    (append-nil (start_of_tag name))
    (in_element {attributes = []} {inside = inside} name is no_attributes content)

pub line_end : IsContent (codes "\n")
line_end = words_content (codes "\n")

-- Attributes

pub more : (names : List (List ℕ)) (before name words : List ℕ) → AreAttributes names before → IsTrue (is_name name)
    → IsFalse (is_one_of name names) → AreAttributes (name ∷ names) (before ++ worded name words)
more names before name words given is new =
    one_more {names = names} {before = before} {name = name} {words = escaped_text words} given is new
    (escaped_words words)

pub first : (name words : List ℕ) → IsTrue (is_name name) → AreAttributes (name ∷ []) (worded name words)
first name words is = more [] [] name words no_attributes is refl

-- Shapes

look_is : (look : Look) → AreAttributes (codes "class" ∷ []) (look_attribute look)
look_is look = first (codes "class") (look_name look) refl

line_is : (look : Look) (from to : Spot) → IsContent (shape_text (Line look from to))
line_is look from to =
    in_empty {attributes = line_attributes look from to} (codes "line") refl
    (more _ _ (codes "y2") (decimal to.y)
    (more _ _ (codes "x2") (decimal to.x)
    (more _ _ (codes "y1") (decimal from.y)
    (more _ _ (codes "x1") (decimal from.x) (look_is look) refl refl) refl refl) refl refl) refl refl)

bar_is : (look : Look) (at : Spot) (width height : ℕ) → IsContent (shape_text (Bar look at width height))
bar_is look at width height =
    in_empty {attributes = bar_attributes look at width height} (codes "rect") refl
    (more _ _ (codes "height") (decimal height)
    (more _ _ (codes "width") (decimal width)
    (more _ _ (codes "y") (decimal at.y)
    (more _ _ (codes "x") (decimal at.x) (look_is look) refl refl) refl refl) refl refl) refl refl)

circle_is : (look : Look) (at : Spot) (radius : ℕ) → IsContent (shape_text (Circle look at radius))
circle_is look at radius =
    in_empty {attributes = circle_attributes look at radius} (codes "circle") refl
    (more _ _ (codes "r") (decimal radius)
    (more _ _ (codes "cy") (decimal at.y)
    (more _ _ (codes "cx") (decimal at.x) (look_is look) refl refl) refl refl) refl refl)

words_are : (look : Look) (at : Spot) (words : List ℕ) → IsContent (shape_text (Words look at words))
words_are look at words =
    in_element {attributes = words_attributes look at} {inside = escaped_text words} (codes "text") refl
    (more _ _ (codes "y") (decimal at.y) (more _ _ (codes "x") (decimal at.x) (look_is look) refl refl) refl refl)
    (words_content words)

shape_content : (shape : Shape) → IsContent (shape_text shape)
shape_content (Line look from to) = line_is look from to
shape_content (Bar look at width height) = bar_is look at width height
shape_content (Circle look at radius) = circle_is look at radius
shape_content (Words look at words) = words_are look at words

-- Groups

pub title_content : (title : List ℕ) → IsContent (title_text title)
title_content [] = words_content []
title_content (sign ∷ rest) =
    bare_content (codes "title") (escaped_text (sign ∷ rest)) refl (words_content (sign ∷ rest))

pub group_content : (group : Group) → IsContent (group_text group)
group_content group =
    turn _ (codes "\n")
    (bare_content (codes "g") _ refl
    (turn (title_text group.title) (flat_map shape_text group.shapes) (title_content group.title)
    (all_content shape_text shape_content group.shapes)))
    line_end

-- The style sheet

rule_content : (look : Look) → IsContent (rule_text look)
rule_content look =
    turn _ _
    (turn _ _
    (turn _ _ (turn _ _ (words_content (codes ".")) (words_content (look_name look))) (words_content (codes "{")))
    (words_content (look_style look)))
    (words_content (codes "}\n"))

pub style_content : IsContent style_text
style_content =
    turn _ _ (words_content (codes "\ntext{font:11px sans-serif}\n")) (all_content rule_text rule_content all_looks)
