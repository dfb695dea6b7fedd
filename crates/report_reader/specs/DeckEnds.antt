-- Where a deck ends that a report follows: after the first line whose one word is END, outside the programs of pairs. A
-- program stands after a line whose first word is `pair`, up to the next line that is a point alone. Our own rule.
use Rattle.std.specs.Prelude.{ℕ, ◌+◌, Bool, false, not, List, [], ◌∷◌, length, codes, Option, Some, None, if◌then◌else◌}
use Rattle.std.specs.Str.{bytes_eq}
use Rattle.deck_lines.specs.Lines.{one_word, words_of}
use Rattle.report_reader.specs.Parts.{parts_of}

abbrev pub is_word_of_end : Option (List ℕ) → Bool
is_word_of_end None = false
is_word_of_end (Some word) = bytes_eq word (codes "END")

-- the line's one word is END
abbrev pub is_end_line : List ℕ → Bool
is_end_line line = is_word_of_end (one_word (words_of line))

-- whether a line ends the deck: it is `END`, outside a program
abbrev pub is_end : Bool → List ℕ → Bool
is_end inside line = if inside then false else is_end_line line

-- the first word is `pair`
abbrev pub begins_pair : List (List ℕ) → Bool
begins_pair [] = false
begins_pair (word ∷ words) = bytes_eq word (codes "pair")

-- whether the next line stands inside a program
abbrev pub is_inside : Bool → List ℕ → Bool
is_inside inside line = if inside then not (bytes_eq line (codes ".")) else begins_pair (words_of line)

-- how long lines are up to and with the first that is END
abbrev pub length_to_end : Bool → List ℕ → List (List ℕ) → ℕ
length_to_end inside last [] = length last
length_to_end inside line (next ∷ lines) =
    length line + 1 + (if is_end inside line then 0 else length_to_end (is_inside inside line) next lines)

abbrev pub deck_end : List ℕ → ℕ
deck_end bytes = length_to_end false (parts_of 10 bytes).first (parts_of 10 bytes).others
