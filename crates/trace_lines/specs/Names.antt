-- Names and numbers in the lines of a trace.
use Rattle.std.specs.Prelude.{ℕ, List, [], ◌++◌, slice_get, Option, Some, None}
use Rattle.std.specs.Fmt.{decimal}
use Rattle.tal_tree.specs.declared.site.ProcessSpec.{ProcessSpec}
use Rattle.tal_tree.specs.declared.site.Site.{Site}
use Rattle.tal_tree.specs.declared.site.TerminalSpec.{TerminalSpec}

abbrev pub named_process : Option ProcessSpec → List ℕ
named_process None = []
named_process (Some spec) = spec.name

abbrev pub process_name : Site → ℕ → List ℕ
process_name site process = named_process (slice_get site.processes process)

abbrev pub named_terminal : Option TerminalSpec → List ℕ
named_terminal None = []
named_terminal (Some spec) = spec.name

abbrev pub terminal_name : Site → ℕ → List ℕ
terminal_name site terminal = named_terminal (slice_get site.terminals terminal)

-- a number with what stands around it
abbrev pub numbered_text : List ℕ → ℕ → List ℕ → List ℕ
numbered_text lead number tail = lead ++ decimal number ++ tail

-- two numbers, each with what stands before it
abbrev pub pair_text : List ℕ → ℕ → List ℕ → ℕ → List ℕ
pair_text lead first middle second = numbered_text lead first [] ++ numbered_text middle second []
