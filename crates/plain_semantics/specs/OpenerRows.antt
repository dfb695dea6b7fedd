-- Where the files of a process and the terminals of a site stand among the openers of the processes that they ask.
use Rattle.std.specs.Prelude.{ℕ, ◌+◌, List, [], ◌∷◌, Option}
use Rattle.process_semantics.specs.tal_tree.specs.declared.program.FileUse.{FileUse}
use Rattle.process_semantics.specs.tal_tree.specs.declared.site.Site.{Site}
use Rattle.process_semantics.specs.tal_tree.specs.declared.site.TerminalSpec.{TerminalSpec}
use Rattle.process_semantics.specs.tal_tree.specs.declared.site.Who.TheVariants as who
use Rattle.plain_semantics.specs.declared.slot.Opener.{Opener}
use Rattle.plain_semantics.specs.Openers.{opener_of}

-- for each file of a process, from a number on, the opener that it is
abbrev pub file_row : Site → ℕ → ℕ → List FileUse → List (Option Opener)
file_row site process number [] = []
file_row site process number (file ∷ files) =
    opener_of site (who.File process number) ∷ file_row site process (number + 1) files

-- for each terminal, from a number on, the opener that it is
abbrev pub terminal_row : Site → ℕ → List TerminalSpec → List (Option Opener)
terminal_row site number [] = []
terminal_row site number (terminal ∷ terminals) =
    opener_of site (who.Terminal number) ∷ terminal_row site (number + 1) terminals
