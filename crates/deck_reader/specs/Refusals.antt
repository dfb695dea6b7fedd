-- The fault for which bytes are refused that spell no deck. First there may be too many of them. Then all lines are
-- gone through, up to the first that can't stand where it does, and the programs of the pairs up to that line: the
-- fault of a program stands on its pair's line, and goes before another fault of that line. Where all lines stand and
-- all programs read, names are looked up.
use Rattle.std.specs.Prelude.{◌≡◌, ◌≢◌, ◌⊎◌, ◌<◌, ◌≤◌, ℕ, List, [], ◌∷◌, length, Option, Some, None, option_map}
use Rattle.std.specs.Prelude.{if◌then◌else◌}
use Rattle.gd_words.specs.Memory.{no_memory}
use Rattle.name_table.specs.Entries.{Named}
use Rattle.tal_laws.specs.tal_reader.specs.Reads.{Reads, IsRefused}
use Rattle.tal_tree.specs.declared.fault.DeckFault.{DeckFault}
use Rattle.tal_tree.specs.declared.fault.DeckFault.TheVariants as fault
use Rattle.tal_tree.specs.declared.fault.TalFault.TheVariants as tal
use Rattle.tal_tree.specs.declared.program.Program.{Program}
use Rattle.tal_tree.specs.declared.site.Kind.{Kind}
use Rattle.tal_tree.specs.declared.site.ProcessSpec.{ProcessSpec}
use Rattle.deck_reader.specs.Decks.{IsKindOf, AreProcessesOf}
use Rattle.deck_lines.specs.Lines.{lines_of}
use Rattle.deck_reader.specs.Names.{misnamed_in}
use Rattle.deck_reader.specs.Outlined.{outline_of}
use Rattle.deck_reader.specs.declared.line_fault.LineFault.{LineFault}
use Rattle.deck_reader.specs.declared.line_fault.LineFault.TheVariants as line
use Rattle.deck_reader.specs.declared.names.NameFault.{NameFault}
use Rattle.deck_reader.specs.declared.outline.Body.{Body}
use Rattle.deck_reader.specs.declared.outline.Body.TheVariants as body
use Rattle.deck_reader.specs.declared.outline.Outline.{Outline}
use Rattle.deck_reader.specs.declared.outline.ProcessLines.{ProcessLines}
use Rattle.deck_reader.specs.declared.outline.ProgramLines.{ProgramLines}
use Rattle.deck_reader.specs.declared.step.Breach.{Breach}
use Rattle.deck_reader.specs.declared.told.Told.{Told}
use Rattle.deck_reader.specs.declared.told.Told.TheVariants as told
use Rattle.gd_words.specs.declared.limits.TheConstants.{MOST_DECK_BYTES}

-- the program of a pair is refused
abbrev pub IsRefusedAs : Body → DeckFault → Type 0
IsRefusedAs (body.Pair lines) (fault.Program number why) = (number ≡ lines.line) × IsRefused lines.text why
IsRefusedAs _ _ = ⊥

-- the first of these programs that is refused: those before it all read
abbrev pub IsFirstProgramFault : List (Named ProcessLines) → DeckFault → Type 0
IsFirstProgramFault [] why = ⊥
IsFirstProgramFault (lines ∷ rest) why =
    IsRefusedAs lines.1.body why ⊎ ((what : Kind) × IsKindOf lines.1.body what × IsFirstProgramFault rest why)

-- the fault of a line that can't stand
abbrev pub fault_at : ℕ → LineFault → DeckFault
fault_at number line.Form = fault.Line number
fault_at number line.NameTwice = fault.NameTwice number
fault_at number line.SameProcessor = fault.SameProcessor number
fault_at number line.NoProcessor = fault.NoProcessor number
fault_at number (line.Limit limit) = fault.Limit number limit
fault_at number line.NoEnd = fault.NoEnd number

-- that fault, or where the line is a pair's that of its program, if it is refused
abbrev pub IsOwnFault : Option ProgramLines → DeckFault → DeckFault → Type 0
IsOwnFault None own why = why ≡ own
IsOwnFault (Some lines) own why =
    IsRefusedAs (body.Pair lines) why ⊎ ((program : Program) × Reads lines.text program × (why ≡ own))

-- where a line can't stand: the first program before it that is refused, or else its own fault
abbrev pub IsBreachFault : Breach → DeckFault → Type 0
IsBreachFault breach why =
    IsFirstProgramFault breach.processes why
    ⊎ ((processes : List ProcessSpec) × AreProcessesOf breach.processes processes
    × IsOwnFault breach.own (fault_at breach.line breach.why) why)

-- the fault of a name
abbrev pub name_fault : NameFault → DeckFault
name_fault misnamed = if misnamed.own then fault.OpensItself misnamed.line else fault.UnknownName misnamed.line

-- where all lines stand: the first program that is refused, or else the first name that is amiss
abbrev pub IsOutlineFault : Outline → DeckFault → Type 0
IsOutlineFault outline why =
    IsFirstProgramFault outline.processes why
    ⊎ ((processes : List ProcessSpec) × AreProcessesOf outline.processes processes
    × (option_map name_fault (misnamed_in outline processes) ≡ Some why))

-- the fault of what lines say
abbrev pub IsFaultOf : Told → DeckFault → Type 0
IsFaultOf (told.Whole outline) why = IsOutlineFault outline why
IsFaultOf (told.Broken breach) why = IsBreachFault breach why

-- why bytes are refused
abbrev pub IsRefusalOf : List ℕ → DeckFault → Type 0
IsRefusalOf bytes fault.TooLong = MOST_DECK_BYTES < length bytes
IsRefusalOf bytes (fault.NoMemory _) = ⊥
IsRefusalOf bytes why = (length bytes ≤ MOST_DECK_BYTES) × IsFaultOf (outline_of (lines_of bytes)) why

-- what is told is right, unless memory ran out, which is told as no fault of a program
abbrev pub Tells : (DeckFault → Type 0) → DeckFault → Type 0
Tells IsRight (fault.NoMemory _) = Unit {0}
Tells IsRight (fault.Program number why) = (why ≢ tal.NoMemory no_memory) × IsRight (fault.Program number why)
Tells IsRight why = IsRight why
