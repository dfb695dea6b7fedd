-- How words are written so that each sign means itself. A sign that no text may have is `?`.
use Rattle.std.specs.Fmt.{decimal}
use Rattle.std.specs.Prelude.{ℕ, ◌==◌, if◌then◌else◌, List, [], ◌∷◌, codes, flat_map}
use Rattle.svg_text.specs.Xml.{attribute, stands_for_itself}

abbrev pub named : ℕ → List ℕ
named c =
    if c == 34 then codes "&quot;" else if c == 38 then codes "&amp;" else if c == 60 then codes "&lt;"
    else if c == 62 then codes "&gt;" else codes "?"

abbrev pub escaped : ℕ → List ℕ
escaped c = if stands_for_itself c then c ∷ [] else named c

abbrev pub escaped_text : List ℕ → List ℕ
escaped_text words = flat_map escaped words

-- attributes of words and of numbers
abbrev pub worded : List ℕ → List ℕ → List ℕ
worded name words = attribute name (escaped_text words)

abbrev pub numbered : List ℕ → ℕ → List ℕ
numbered name number = worded name (decimal number)
