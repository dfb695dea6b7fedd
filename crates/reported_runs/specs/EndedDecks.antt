-- Decks behind which a report may stand.
use Rattle.std.specs.Prelude.{◌≡◌, ℕ, List, [], ◌∷◌, ◌++◌, length}
use Rattle.report_reader.specs.DeckEnds.{deck_end}

-- the deck ends with these bytes: with the line feed of its END, so that one more isn't of it
abbrev pub IsEnded : List ℕ → Type 0
IsEnded bytes = deck_end (bytes ++ 10 ∷ []) ≡ length bytes
