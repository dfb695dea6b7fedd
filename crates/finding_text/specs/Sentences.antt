-- The causes for which programs are refused, as sentences. Our own wording.
use Rattle.std.specs.Prelude.{ℕ, List, [], ◌++◌, codes}
use Rattle.std.specs.Fmt.{decimal}
use Rattle.path_semantics.specs.declared.reason.Reason.{Reason}
use Rattle.path_semantics.specs.declared.reason.Reason.TheVariants.{Data, SyncBlock, Input, Depth}
use Rattle.path_semantics.specs.declared.reason.RefusalFault.{RefusalFault}
use Rattle.path_semantics.specs.declared.reason.RefusalFault.TheVariants.{TooDeep, TooLarge, Broken, NoMemory}
use Rattle.tal_tree.specs.declared.program.Program.{Program}
use Rattle.finding_text.specs.Names.{file_name, item_name}

abbrev pub too_deep_text : List ℕ → List ℕ
too_deep_text name = codes "the calls of " ++ name ++ codes " go more than 16 procedures deep"

abbrev pub size_text : List ℕ → ℕ → List ℕ
size_text name size =
    codes "with its calls written out " ++ name ++ codes " has " ++ decimal size
    ++ codes " statements, and 8,192 is the limit"

abbrev pub data_text : List ℕ → Program → ℕ → List ℕ
data_text name program item =
    codes "a CHECKPOINT of " ++ name ++ codes " doesn't name " ++ item_name program item
    ++ codes ", which was set before it"

abbrev pub sync_text : List ℕ → Program → ℕ → List ℕ
sync_text name program file =
    codes "a CHECKPOINT of " ++ name ++ codes " doesn't name the file " ++ file_name program file
    ++ codes ", which was asked before it"

abbrev pub input_text : List ℕ → List ℕ
input_text name = name ++ codes " asks or replies on a request that it has read, and no CHECKPOINT comes between"

abbrev pub depth_text : List ℕ → Program → ℕ → List ℕ
depth_text name program file =
    name ++ codes " asks the file " ++ file_name program file
    ++ codes " more often than its OPEN keeps replies, and no CHECKPOINT comes between"

abbrev pub broken_text : List ℕ → Program → Reason → List ℕ
broken_text name program (Data item) = data_text name program item
broken_text name program (SyncBlock file) = sync_text name program file
broken_text name program Input = input_text name
broken_text name program (Depth file) = depth_text name program file

-- why the program of a pair of this name is refused
abbrev pub refusal_text : List ℕ → Program → RefusalFault → List ℕ
refusal_text name program TooDeep = too_deep_text name
refusal_text name program (TooLarge size) = size_text name size
refusal_text name program (Broken reason path) = broken_text name program reason
refusal_text name program (NoMemory memory) = []

abbrev pub hint_text : Reason → List ℕ
hint_text (Data item) =
    codes "a backup that takes over here has the old value; name it, or make it a local of its PROC"
hint_text (SyncBlock file) = codes "a backup that takes over here numbers its next request as this one was numbered"
hint_text Input = codes "a backup that takes over here takes the same request once more, and does it twice"
hint_text (Depth file) =
    codes "a backup that takes over here asks all of them again, and the first reply is kept no more"

-- what is lost, and what often helps
abbrev pub hint_of : RefusalFault → List ℕ
hint_of TooDeep = codes "write the statements of a procedure where it is called"
hint_of (TooLarge size) = codes "call a procedure in a loop in place of many times, or from fewer places"
hint_of (Broken reason path) = hint_text reason
hint_of (NoMemory memory) = []

-- as `guardian` writes it
abbrev pub reason_text : Program → Reason → List ℕ
reason_text program (Data item) = codes "Data " ++ item_name program item
reason_text program (SyncBlock file) = codes "SyncBlock " ++ file_name program file
reason_text program Input = codes "Input"
reason_text program (Depth file) = codes "Depth " ++ file_name program file

abbrev pub cause_text : Program → RefusalFault → List ℕ
cause_text program TooDeep = codes "TooDeep"
cause_text program (TooLarge size) = codes "TooLarge " ++ decimal size
cause_text program (Broken reason path) = reason_text program reason
cause_text program (NoMemory memory) = []
