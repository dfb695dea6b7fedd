-- The line of an act that a run kept.
use Rattle.std.specs.Prelude.{ℕ, List, [], ◌∷◌, ◌++◌, flat_map, slice_get, codes}
use Rattle.std.specs.Option.{option_map, option_and_then, unwrap_or}
use Rattle.tal_tree.specs.declared.act.Act.{Act}
use Rattle.tal_tree.specs.declared.act.Act.TheVariants.{Step, Take, Enter, Print}
use Rattle.tal_tree.specs.declared.site.Kind.{Kind}
use Rattle.tal_tree.specs.declared.site.Kind.TheVariants as kind
use Rattle.tal_tree.specs.declared.site.Site.{Site}
use Rattle.tal_tree.specs.declared.site.Who.{Who}
use Rattle.tal_tree.specs.declared.site.Who.TheVariants as who
use Rattle.plain_semantics.specs.Openers.{openers_of}
use Rattle.trace_print.specs.ShownLine.{process_name, terminal_name}

-- the name of the variable of a program's file; nothing where it isn't there
abbrev pub variable_in : Kind → ℕ → List ℕ
variable_in (kind.Disc sectors mirrored) file = []
variable_in (kind.Pair program) file =
    unwrap_or (option_and_then (λ used. option_map (λ item. item.name) (slice_get program.items used.item))
    (slice_get program.files file)) []

abbrev pub variable_name : Site → ℕ → ℕ → List ℕ
variable_name site process file =
    unwrap_or (option_map (λ spec. variable_in spec.what file) (slice_get site.processes process)) []

-- an opener: a terminal by its name, a file by its process's name, `/` and its variable
abbrev pub who_name : Site → Who → List ℕ
who_name site (who.Terminal terminal) = terminal_name site terminal
who_name site (who.File process file) = process_name site process ++ codes "/" ++ variable_name site process file

-- the opener at a place of a process; nothing where it has none there
abbrev pub opener_name : Site → ℕ → ℕ → List ℕ
opener_name site process place =
    unwrap_or (option_map (λ opener. who_name site opener.who) (slice_get (openers_of site process) place)) []

-- `A step PROCESS`, `A take PROCESS OPENER`, `A enter TERMINAL`, `A print TERMINAL`
abbrev pub act_line : Site → Act → List ℕ
act_line site (Step process) = codes "A step " ++ process_name site process ++ 10 ∷ []
act_line site (Take process opener) =
    codes "A take " ++ process_name site process ++ codes " " ++ opener_name site process opener ++ 10 ∷ []
act_line site (Enter terminal) = codes "A enter " ++ terminal_name site terminal ++ 10 ∷ []
act_line site (Print terminal) = codes "A print " ++ terminal_name site terminal ++ 10 ∷ []

-- the lines of acts, in order
abbrev pub act_lines : Site → List Act → List ℕ
act_lines site acts = flat_map (act_line site) acts
