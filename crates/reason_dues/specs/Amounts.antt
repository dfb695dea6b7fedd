-- How much of what a reason speaks of is due, as one number, and at which number its statements break.
use Rattle.std.specs.Prelude.{ℕ, ◌+◌, Bool, true, false, ◌&&◌, if◌then◌else◌, nat_le, min, List, slice_get, Option}
use Rattle.std.specs.Prelude.{Some, None, is_some}
use Rattle.gd_words.specs.Members.{is_among}
use Rattle.tal_tree.specs.declared.program.FileUse.{FileUse}
use Rattle.tal_tree.specs.declared.program.Program.{Program}
use Rattle.tal_tree.specs.declared.statement.Statement.{Statement}
use Rattle.tal_tree.specs.declared.statement.What.{What, What-F, out-What}
use Rattle.path_semantics.specs.process_semantics.specs.State.{Entry, Run, Test, Last}
use Rattle.path_semantics.specs.declared.dues.Dues.{Dues}
use Rattle.path_semantics.specs.declared.reason.Reason.{Reason}
use Rattle.path_semantics.specs.declared.reason.Reason.TheVariants.{Data, SyncBlock, Input, Depth}
use Rattle.path_semantics.specs.Dues.{changed_by, asked_by, reads}
use Rattle.path_semantics.specs.Break.{asked_count, may_break}

abbrev pub one_if : Bool → ℕ
one_if b = if b then 1 else 0

-- how much is due: 1 where a global may have changed, a file was asked or a request was read, and for a depth the count
-- of the file's WRITEREADs
abbrev pub amount : Reason → Dues → ℕ
amount (Data item) dues = one_if (is_among item dues.globals)
amount (SyncBlock file) dues = one_if (is_among file dues.asked)
amount Input dues = one_if dues.read
amount (Depth file) dues = asked_count file dues

-- whether a statement leaves nothing due
abbrev pub clears : What-F What Statement → Bool
clears (What-F.Checkpoint _ _) = true
clears (What-F.Assign _ _) = false
clears (What-F.AssignCall _ _ _) = false
clears (What-F.If _ _ _) = false
clears (What-F.While _ _) = false
clears (What-F.DoUntil _ _) = false
clears (What-F.For _ _ _ _ _ _ _) = false
clears (What-F.Call _ _) = false
clears (What-F.Return _) = false
clears (What-F.ReadUpdate _ _ _) = false
clears (What-F.Reply _ _) = false
clears (What-F.WriteRead _ _ _ _ _) = false
clears What-F.CheckMonitor = false
clears (What-F.Open _) = false
clears What-F.Stop = false

-- whether a statement adds to it
abbrev pub adds : Reason → What-F What Statement → Bool
adds (Data item) what = is_among item (changed_by what)
adds (SyncBlock file) what = is_among file (asked_by what)
adds Input what = reads what
adds (Depth file) what = is_among file (asked_by what)

-- whether a change of these globals adds to it
abbrev pub adds_changed : Reason → List ℕ → Bool
adds_changed (Data item) globals = is_among item globals
adds_changed (SyncBlock file) globals = false
adds_changed Input globals = false
adds_changed (Depth file) globals = false

-- so much with one more: only WRITEREADs are counted
abbrev pub one_more : Reason → ℕ → ℕ
one_more (Data item) n = 1
one_more (SyncBlock file) n = 1
one_more Input n = 1
one_more (Depth file) n = n + 1

abbrev pub after_what : Reason → What-F What Statement → ℕ → ℕ
after_what reason what n = if clears what then 0 else (if adds reason what then one_more reason n else n)

-- so much after a change of these globals
abbrev pub after_changed : Reason → List ℕ → ℕ → ℕ
after_changed reason globals n = if adds_changed reason globals then 1 else n

-- so much after an entry
abbrev pub after_entry : Reason → Entry → ℕ → ℕ
after_entry reason (Run statement) n = after_what reason (out-What statement.what) n
after_entry reason (Test statement) n = n
after_entry reason (Last statement) n = after_changed reason (changed_by (out-What statement.what)) n

abbrev pub depth_in : Option FileUse → ℕ
depth_in None = 0
depth_in (Some file) = file.depth

-- as much as breaks: a WRITEREAD breaks for a depth where as many are due as the file's replies are kept, and all else
-- with 1
abbrev pub most_of : Program → Reason → ℕ
most_of program (Data item) = 1
most_of program (SyncBlock file) = 1
most_of program Input = 1
most_of program (Depth file) = depth_in (slice_get program.files file)

-- so much after an entry and a change of these globals, cut at the most that matters: more makes no difference
abbrev pub cut_after : ℕ → Reason → Entry → List ℕ → ℕ → ℕ
cut_after most reason entry globals n = min most (after_changed reason globals (after_entry reason entry n))

-- whether a reason speaks of a file that is there, if of a file's depth
abbrev pub is_there : Program → Reason → Bool
is_there program (Data item) = true
is_there program (SyncBlock file) = true
is_there program Input = true
is_there program (Depth file) = is_some (slice_get program.files file)

-- whether an entry breaks for a reason where enough is due
abbrev pub may_break_at : Reason → Entry → Bool
may_break_at reason (Run statement) = may_break reason (out-What statement.what)
may_break_at reason (Test statement) = false
may_break_at reason (Last statement) = false

-- whether an entry breaks for a reason where so much is due
abbrev pub breaks_with : Program → Reason → Entry → ℕ → Bool
breaks_with program reason entry n =
    may_break_at reason entry && (is_there program reason && nat_le (most_of program reason) n)
