-- Where a pair and its program stand in a deck.
use Rattle.std.specs.Prelude.{ℕ, ◌+◌, Bool, false, if◌then◌else◌, List, [], ◌∷◌, map, Option, Some, None}
use Rattle.std.specs.Str.{bytes_eq}
use Rattle.deck_lines.specs.Lines.{lines_of}
use Rattle.deck_lines.specs.SayingOf.{saying_of}
use Rattle.deck_lines.specs.declared.saying.Saying.{Saying}
use Rattle.deck_lines.specs.declared.saying.Saying.TheVariants as saying
use Rattle.text_pieces.specs.Signs.{shown_sign}
use Rattle.fault_words.specs.Places.{line_at}

abbrev pub is_pair : List ℕ → List ℕ → Bool
is_pair name other = bytes_eq name other

abbrev pub declares : List ℕ → Saying → Bool
declares name (saying.Pair placing) = is_pair name placing.name
declares name _ = false

-- whether a line declares the pair of this name
abbrev pub says_pair : List ℕ → List ℕ → Bool
says_pair name line = declares name (saying_of line)

-- the number of the first of these lines that does, where so many lines stand before them
abbrev pub pair_among : List ℕ → ℕ → List (List ℕ) → ℕ
pair_among name before [] = 0
pair_among name before (line ∷ rest) =
    if says_pair name line then before + 1 else pair_among name (before + 1) rest

-- the number of the deck's line that declares the pair of this name, from 1
abbrev pub pair_line : List ℕ → List ℕ → ℕ
pair_line bytes name = pair_among name 0 (lines_of bytes)

abbrev pub source_under : Option (List ℕ) → List ℕ
source_under None = []
source_under (Some line) = map shown_sign line

-- a line of the deck as it is shown
abbrev pub source_text : List ℕ → ℕ → List ℕ
source_text bytes number = source_under (line_at bytes number)
