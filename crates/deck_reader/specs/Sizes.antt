-- How long the texts of programs are.
use Rattle.std.specs.Prelude.{ℕ, ◌+◌, List, [], ◌∷◌, length, Option, Some, None}
use Rattle.name_table.specs.Entries.{Named}
use Rattle.deck_reader.specs.declared.outline.Body.{Body}
use Rattle.deck_reader.specs.declared.outline.Body.TheVariants as body
use Rattle.deck_reader.specs.declared.outline.ProcessLines.{ProcessLines}
use Rattle.deck_reader.specs.declared.outline.ProgramLines.{ProgramLines}
use Rattle.deck_reader.specs.declared.step.Breach.{Breach}

-- how long the text of a pair's program is
abbrev pub body_size : Body → ℕ
body_size (body.Disc sectors mirrored) = 0
body_size (body.Pair lines) = length lines.text

-- how long the texts of all programs are
abbrev pub text_size : List (Named ProcessLines) → ℕ
text_size [] = 0
text_size (lines ∷ rest) = body_size lines.1.body + text_size rest

-- how long the text of a program is, if there is one
abbrev pub own_size : Option ProgramLines → ℕ
own_size None = 0
own_size (Some program) = length program.text

-- how long the texts are up to a line that can't stand, with that of its own program
abbrev pub breach_size : Breach → ℕ
breach_size breach = text_size breach.processes + own_size breach.own
