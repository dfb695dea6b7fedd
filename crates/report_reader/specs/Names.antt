-- The processes, terminals and openers of a site by their names.
use Rattle.std.specs.Prelude.{◌≡◌, ◌≤◌, ℕ, ◌+◌, List, [], ◌∷◌, slice_get, length, Option, Some, None, if◌then◌else◌}
use Rattle.std.specs.List.{All}
use Rattle.std.specs.Option.{unwrap_or}
use Rattle.std.specs.Str.{bytes_eq}
use Rattle.tal_tree.specs.declared.site.OpenerSpec.{OpenerSpec}
use Rattle.tal_tree.specs.declared.site.ProcessSpec.{ProcessSpec}
use Rattle.tal_tree.specs.declared.site.Site.{Site}
use Rattle.tal_tree.specs.declared.site.TerminalSpec.{TerminalSpec}
use Rattle.plain_semantics.specs.Openers.{named_from, openers_of}
use Rattle.trace_print.specs.ActLine.{who_name}

-- the place in the deck of the first process of a name
abbrev pub process_named : Site → List ℕ → Option ℕ
process_named site name = named_from name 0 site.processes

-- the place of the first terminal of a name, from a number on
abbrev pub terminal_from : List ℕ → ℕ → List TerminalSpec → Option ℕ
terminal_from name number [] = None
terminal_from name number (terminal ∷ terminals) =
    if bytes_eq name terminal.name then Some number else terminal_from name (number + 1) terminals

abbrev pub terminal_named : Site → List ℕ → Option ℕ
terminal_named site name = terminal_from name 0 site.terminals

-- the place of the first opener of a name among openers, from a number on
abbrev pub opener_from : Site → List ℕ → ℕ → List OpenerSpec → Option ℕ
opener_from site name place [] = None
opener_from site name place (opener ∷ openers) =
    if bytes_eq name (who_name site opener.who) then Some place else opener_from site name (place + 1) openers

-- among those of a process
abbrev pub opener_named : Site → ℕ → List ℕ → Option ℕ
opener_named site process name = opener_from site name 0 (openers_of site process)

-- the openers of processes, from a place in the deck on
abbrev pub opener_lists : Site → ℕ → List ProcessSpec → List (List OpenerSpec)
opener_lists site number [] = []
opener_lists site number (spec ∷ specs) = openers_of site number ∷ opener_lists site (number + 1) specs

-- these are the openers of each process of the site, at most 144 of each; a process that isn't there has none
pub record AreOpeners (site : Site) (lists : List (List OpenerSpec)) : Type 0 where
  pub each : (process : ℕ) → unwrap_or (slice_get lists process) [] ≡ openers_of site process
  pub few : All (λ (list : List OpenerSpec). length list ≤ 144) lists
