-- What a well-formed text is: the part of XML 1.0 (W3C, fifth edition) that has elements, attributes and words, in
-- signs of ASCII. The numbers are those of its productions.
use Rattle.std.specs.Cmp.Lexicographic.{pointwise}
use Rattle.std.specs.Char.{is_ascii_alphabetic, is_ascii_alphanumeric}
use Rattle.std.specs.List.{list_all, list_any}
use Rattle.std.specs.Prelude.{◌≡◌, ℕ, ◌==◌, ◌||◌, ◌&&◌, not, nat_eq, nat_le, Bool, false, IsTrue, IsFalse, List, []}
use Rattle.std.specs.Prelude.{◌∷◌, ◌++◌, codes}

-- Signs

-- a sign that may stand in a text (2)
abbrev pub is_sign : ℕ → Bool
is_sign c = (c == 9) || (c == 10) || (nat_le 32 c && nat_le c 126)

-- a sign that ends words or begins a reference: `"`, `&`, `<`, `>`
abbrev pub is_markup : ℕ → Bool
is_markup c = (c == 34) || (c == 38) || (c == 60) || (c == 62)

abbrev pub stands_for_itself : ℕ → Bool
stands_for_itself c = is_sign c && not (is_markup c)

-- one sign of words: it stands for itself, or is named by a reference (68)
pub data IsPiece : List ℕ → Type 0 where
  itself : (c : ℕ) → IsTrue (stands_for_itself c) → IsPiece (c ∷ [])
  quote : IsPiece (codes "&quot;")
  ampersand : IsPiece (codes "&amp;")
  less : IsPiece (codes "&lt;")
  greater : IsPiece (codes "&gt;")

-- words, between tags (14) or the quotes of an attribute (10)
pub data AreWords : List ℕ → Type 0 where
  no_words : AreWords []
  after_piece : {piece rest : List ℕ} → IsPiece piece → AreWords rest → AreWords (piece ++ rest)

-- a name (5)
abbrev pub is_name : List ℕ → Bool
is_name [] = false
is_name (first ∷ rest) = is_ascii_alphabetic first && list_all is_ascii_alphanumeric rest

-- Elements

-- an attribute with its words between quotes (41)
abbrev pub attribute : List ℕ → List ℕ → List ℕ
attribute name words = codes " " ++ name ++ codes "=\"" ++ words ++ codes "\""

abbrev pub start_of_tag : List ℕ → List ℕ
start_of_tag name = codes "<" ++ name

abbrev pub end_tag : List ℕ → List ℕ
end_tag name = codes "</" ++ name ++ codes ">"

-- an element by its name, its attributes and what stands in it (39, 40, 42)
abbrev pub element : List ℕ → List ℕ → List ℕ → List ℕ
element name attributes inside = start_of_tag name ++ attributes ++ codes ">" ++ inside ++ end_tag name

-- an element in which nothing stands (44)
abbrev pub empty_element : List ℕ → List ℕ → List ℕ
empty_element name attributes = start_of_tag name ++ attributes ++ codes "/>"

abbrev pub is_one_of : List ℕ → List (List ℕ) → Bool
is_one_of name names = list_any (pointwise nat_eq name) names

-- attributes of these names, of which no two are the same
pub data AreAttributes : List (List ℕ) → List ℕ → Type 0 where
  no_attributes : AreAttributes [] []
  one_more : {names : List (List ℕ)} {before name words : List ℕ} → AreAttributes names before → IsTrue (is_name name)
      → IsFalse (is_one_of name names) → AreWords words → AreAttributes (name ∷ names) (before ++ attribute name words)

-- what may stand in an element (43)
pub data IsContent : List ℕ → Type 0 where
  nothing : IsContent []
  in_words : {words : List ℕ} → AreWords words → IsContent words
  in_turn : {first second : List ℕ} → IsContent first → IsContent second → IsContent (first ++ second)
  in_element : {names : List (List ℕ)} {attributes inside : List ℕ} (name : List ℕ) → IsTrue (is_name name)
      → AreAttributes names attributes → IsContent inside → IsContent (element name attributes inside)
  in_empty : {names : List (List ℕ)} {attributes : List ℕ} (name : List ℕ) → IsTrue (is_name name)
      → AreAttributes names attributes → IsContent (empty_element name attributes)

-- a text that is one whole element, and the end of its line (1)
pub record IsDocument (text : List ℕ) : Type 0 where
  pub names : List (List ℕ)
  pub name : List ℕ
  pub attributes : List ℕ
  pub inside : List ℕ
  pub is_named : IsTrue (is_name name)
  pub are_attributes : AreAttributes names attributes
  pub is_content : IsContent inside
  pub is : text ≡ element name attributes inside ++ 10 ∷ []
