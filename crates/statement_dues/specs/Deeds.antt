-- What the statements of a program do to what is due for a reason. Our own.
use Rattle.std.specs.Prelude.{◌==◌, Bool, false, not, min, if◌then◌else◌, List, map, Some}
use Rattle.tal_tree.specs.declared.program.Program.{Program}
use Rattle.tal_tree.specs.declared.statement.What.{out-What}
use Rattle.process_semantics.specs.State.{Entry, Run, Test, Last}
use Rattle.reason_dues.specs.path_semantics.specs.declared.reason.Reason.{Reason}
use Rattle.reason_dues.specs.path_semantics.specs.Dues.{changed_by_return}
use Rattle.program_entries.specs.Entries.{entries_of}
use Rattle.reason_dues.specs.Amounts.{after_entry, after_changed, clears}
use Rattle.statement_dues.specs.declared.deeds.Deed.{Deed}
use Rattle.statement_dues.specs.declared.deeds.Deed.TheVariants.{Nothing, MakesDue, GivesDue, Clears}

abbrev pub is_checkpoint : Entry → Bool
is_checkpoint (Run statement) = clears (out-What statement.what)
is_checkpoint (Test statement) = false
is_checkpoint (Last statement) = false

-- a CHECKPOINT clears all; an entry makes something due by its own step, or by the return from its call, where it is
-- due after it and nothing was due before
abbrev pub deed_of : Reason → Entry → Deed
deed_of reason entry =
    if is_checkpoint entry then Clears
    else if not (after_entry reason entry 0 == 0) then MakesDue
    else if not (min 1 (after_changed reason (changed_by_return (Some entry)) 0) == 0) then GivesDue
    else Nothing

-- what each entry of a program does, in the order of the text, which is that of the numbers
abbrev pub deeds_of : Reason → Program → List Deed
deeds_of reason program = map (deed_of reason) (entries_of program)
