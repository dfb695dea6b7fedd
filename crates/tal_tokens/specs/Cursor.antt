-- Places in a text.
use Rattle.std.specs.Prelude.{ℕ, ◌+◌, ◌≤◌, ◌==◌, List, [], ◌∷◌, if◌then◌else◌}
use Rattle.tal_tree.specs.declared.place.Place.{Place}
use Rattle.tal_tokens.specs.declared.cursor.Cursor.{Cursor}
use Rattle.tal_tokens.specs.declared.token.At.{At}

abbrev pub start_of_text : Cursor
start_of_text = record { place = record { line = 1; column = 1 }; offset = 0 }

-- the place of the byte after the byte c at a place: the next column, or after a line feed the next line
abbrev pub next_place : Place → ℕ → Place
next_place place c =
    if c == 10 then record { line = place.line + 1; column = 1 } else record place { column = place.column + 1 }

abbrev pub after : Cursor → ℕ → Cursor
after cursor c = record { place = next_place cursor.place c; offset = cursor.offset + 1 }

-- the cursor after all bytes of a text
abbrev pub passed : Cursor → List ℕ → Cursor
passed cursor [] = cursor
passed cursor (c ∷ text) = passed (after cursor c) text

-- where a token of n bytes stands
abbrev pub at_front : Cursor → ℕ → At
at_front cursor n = record { place = cursor.place; start = cursor.offset; end = cursor.offset + n }

-- lines and columns grow no faster than the offset
abbrev pub IsNear : Cursor → Type 0
IsNear cursor = (cursor.place.line ≤ cursor.offset + 1) × (cursor.place.column ≤ cursor.offset + 1)
