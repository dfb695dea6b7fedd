-- What sets of numbers and of reasons hold, and of which reasons something may be due after an entry.
use Rattle.std.specs.Prelude.{◌≡◌, ◌<◌, ℕ, ◌==◌, ◌||◌, Bool, false, if◌then◌else◌}
use Rattle.std.specs.Int.{bit_at}
use Rattle.tal_tree.specs.declared.statement.What.{out-What}
use Rattle.path_semantics.specs.process_semantics.specs.State.{Entry, Run, Test, Last}
use Rattle.path_semantics.specs.declared.reason.Reason.{Reason}
use Rattle.path_semantics.specs.declared.reason.Reason.TheVariants.{Data, SyncBlock, Input, Depth}
use Rattle.path_semantics.specs.Dues.{changed_by}
use Rattle.reason_dues.specs.declared.number_set.Numbers.{Numbers}
use Rattle.reason_dues.specs.declared.reasons.Reasons.{Reasons}
use Rattle.reason_dues.specs.Amounts.{clears, adds, adds_changed}

-- whether a number is in a set
abbrev pub has_number : Numbers → ℕ → Bool
has_number set n = bit_at set.bits n == 1

-- a set holds those of the first 64 numbers for which this is true
abbrev pub AreNumbers : Numbers → (ℕ → Bool) → Type 0
AreNumbers set holds = (n : ℕ) → n < 64 → has_number set n ≡ holds n

-- whether a reason is in a set
abbrev pub has_reason : Reasons → Reason → Bool
has_reason set (Data item) = has_number set.data item
has_reason set (SyncBlock file) = has_number set.sync file
has_reason set Input = set.input
has_reason set (Depth file) = has_number set.depth file

-- a reason that speaks of one of the first 64 globals or files, if of any
abbrev pub IsNear : Reason → Type 0
IsNear (Data item) = item < 64
IsNear (SyncBlock file) = file < 64
IsNear Input = Unit {0}
IsNear (Depth file) = file < 64

-- a set holds those of these reasons for which this is true
abbrev pub AreReasons : Reasons → (Reason → Bool) → Type 0
AreReasons set holds = (reason : Reason) → IsNear reason → has_reason set reason ≡ holds reason

-- whether something may be due after an entry, where it may be or not before
abbrev pub due_after : Reason → Entry → Bool → Bool
due_after reason (Run statement) before =
    if clears (out-What statement.what) then false else (adds reason (out-What statement.what) || before)
due_after reason (Test statement) before = before
due_after reason (Last statement) before = adds_changed reason (changed_by (out-What statement.what)) || before
