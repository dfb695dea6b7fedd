-- The line of what a run shows.
use Rattle.std.specs.Prelude.{ℕ, List, [], ◌∷◌, ◌++◌, flat_map, slice_get, codes}
use Rattle.std.specs.Option.{option_map, unwrap_or}
use Rattle.std.specs.Fmt.{decimal}
use Rattle.tal_tree.specs.declared.act.Shown.{Shown}
use Rattle.tal_tree.specs.declared.act.Shown.TheVariants.{Write, Reply}
use Rattle.tal_tree.specs.declared.site.Site.{Site}
use Rattle.trace_print.specs.NumbersText.{words_text}

-- the name of a process, of a terminal; nothing where it isn't there
abbrev pub process_name : Site → ℕ → List ℕ
process_name site process = unwrap_or (option_map (λ spec. spec.name) (slice_get site.processes process)) []

abbrev pub terminal_name : Site → ℕ → List ℕ
terminal_name site terminal = unwrap_or (option_map (λ spec. spec.name) (slice_get site.terminals terminal)) []

-- `W NAME sector: words` of a write, `R NAME number: words` of a reply
abbrev pub shown_line : Site → Shown → List ℕ
shown_line site (Write process sector words) =
    codes "W " ++ process_name site process ++ codes " " ++ decimal sector ++ codes ":" ++ words_text words ++ 10 ∷ []
shown_line site (Reply terminal number words) =
    codes "R " ++ terminal_name site terminal ++ codes " " ++ decimal number ++ codes ":" ++ words_text words ++ 10 ∷ []

-- the lines of all that a run shows
abbrev pub shown_lines : Site → List Shown → List ℕ
shown_lines site shown = flat_map (shown_line site) shown
