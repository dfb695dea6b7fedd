-- A process or a terminal that is told but doesn't stand in the outline yet has a new name.
use Rattle.std.specs.Prelude.{◌≡◌, false, Result, Ok, Err}
use Rattle.name_table.specs.Entries.{has_name}
use Rattle.deck_reader.specs.declared.line_fault.LineFault.{LineFault}
use Rattle.deck_reader.specs.declared.outline.Heading.{Heading}
use Rattle.deck_reader.specs.declared.outline.Outline.{Outline}
use Rattle.deck_reader.specs.declared.step.Stage.{Stage}
use Rattle.deck_reader.specs.declared.step.Stage.TheVariants as at

-- no process has the name of the heading
abbrev pub IsNewHeading : Outline → Result Heading LineFault → Type 0
IsNewHeading outline (Err why) = Unit {0}
IsNewHeading outline (Ok heading) = has_name outline.processes heading.name ≡ false

-- the pair whose program is told and the terminal whose requests are told have new names
abbrev pub HasNew : Stage → Type 0
HasNew (at.Program outline heading program) = IsNewHeading outline heading
HasNew (at.Requests outline name terminal) = has_name outline.terminals name ≡ false
HasNew _ = Unit {0}
