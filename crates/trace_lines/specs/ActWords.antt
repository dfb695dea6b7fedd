-- An act, in the words of a report's lines of acts. Our own wording.
use Rattle.std.specs.Prelude.{ℕ, List, ◌++◌, codes, Option}
use Rattle.tal_tree.specs.declared.site.Site.{Site}
use Rattle.tal_tree.specs.declared.site.Who.{Who}
use Rattle.trace_lines.specs.MessageNames.{of_asker_text}
use Rattle.trace_lines.specs.Names.{process_name, terminal_name}
use Rattle.trace_lines.specs.declared.finding.ActName.{ActName}
use Rattle.trace_lines.specs.declared.finding.ActName.TheVariants as act

abbrev pub take_text : Site → ℕ → Option Who → List ℕ
take_text site process asker = codes "take " ++ process_name site process ++ of_asker_text site asker

abbrev pub deed_named_text : List ℕ → List ℕ → List ℕ
deed_named_text deed name = deed ++ name

abbrev pub act_name_text : Site → ActName → List ℕ
act_name_text site (act.Step process) = deed_named_text (codes "step ") (process_name site process)
act_name_text site (act.Take process asker) = take_text site process asker
act_name_text site (act.Enter terminal) = deed_named_text (codes "enter ") (terminal_name site terminal)
act_name_text site (act.Print terminal) = deed_named_text (codes "print ") (terminal_name site terminal)

-- what becomes of an act, and the act
abbrev pub act_text : Site → List ℕ → ActName → List ℕ
act_text site deed act = deed ++ act_name_text site act
