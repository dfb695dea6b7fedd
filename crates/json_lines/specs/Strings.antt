-- Texts as strings and arrays of JSON. What stands for a sign in a string is said by the crate `json`, after RFC 8259.
use Rattle.std.specs.Prelude.{ℕ, nat_lt, if◌then◌else◌, List, [], ◌∷◌, ◌++◌, codes, flat_map, map}
use Rattle.json.specs.Json.{Items, no_items, item, string}
use Rattle.json.specs.Print.{escape_byte, quoted}

-- a text of JSON is UTF-8, which a comment of a deck needn't be: a byte that no sign of ASCII has is shown as `?`
abbrev pub plain_sign : ℕ → ℕ
plain_sign c = if nat_lt 127 c then 63 else c

abbrev pub plain_text : List ℕ → List ℕ
plain_text text = map plain_sign text

-- what stands in a string for a sign of a text
abbrev pub sign_text : ℕ → List ℕ
sign_text c = escape_byte (plain_sign c)

-- a text as a string
abbrev pub string_text : List ℕ → List ℕ
string_text text = codes "\"" ++ flat_map sign_text text ++ codes "\""

-- and one behind another string
abbrev pub later_text : List ℕ → List ℕ
later_text text = codes "," ++ string_text text

-- texts as an array of strings
abbrev pub strings_text : List (List ℕ) → List ℕ
strings_text [] = codes "[]"
strings_text (first ∷ rest) = codes "[" ++ string_text first ++ flat_map later_text rest ++ codes "]"

-- the items of that array
abbrev pub items_of : List (List ℕ) → Items
items_of [] = no_items
items_of (text ∷ texts) = item (string (plain_text text)) (items_of texts)
