-- A statement by its line of the deck. Our own wording.
use Rattle.std.specs.Prelude.{ℕ, zero, suc, ◌==◌, ◌||◌, Bool, if◌then◌else◌, List, [], ◌∷◌, ◌++◌, codes, map, slice_get}
use Rattle.std.specs.Option.{unwrap_or}
use Rattle.text_pieces.specs.Signs.{shown_sign}
use Rattle.trace_lines.specs.Names.{numbered_text}
use Rattle.trace_lines.specs.declared.places.Places.{Places}

-- the lines of a process's program by its numbers, from number 1 on
abbrev pub program_lines : Places → ℕ → List ℕ
program_lines places process = unwrap_or (slice_get places.programs process) []

abbrev pub line_at : List ℕ → ℕ → ℕ
line_at lines place = unwrap_or (slice_get lines place) 0

-- the line of the deck on which a statement of a process stands, from 1; 0 where there is none
abbrev pub line_of : Places → ℕ → ℕ → ℕ
line_of places process zero = 0
line_of places process (suc k) = line_at (program_lines places process) k

-- a line of the deck by its number from 1
abbrev pub source_of : Places → ℕ → List ℕ
source_of places zero = []
source_of places (suc k) = unwrap_or (slice_get places.lines k) []

abbrev pub is_blank : ℕ → Bool
is_blank sign = (sign == 32) || (sign == 9)

-- a line from its first sign on that is no blank
abbrev pub trimmed : List ℕ → List ℕ
trimmed [] = []
trimmed (sign ∷ rest) = if is_blank sign then trimmed rest else sign ∷ rest

abbrev pub placed_text : Places → ℕ → List ℕ
placed_text places line =
    numbered_text (codes "line ") line (codes ": ") ++ map shown_sign (trimmed (source_of places line))

-- a statement of a process, or a procedure's end, which has the number 0
abbrev pub statement_text : Places → ℕ → ℕ → List ℕ
statement_text places process statement =
    if statement == 0 then codes "the end of a procedure"
    else placed_text places (line_of places process statement)
