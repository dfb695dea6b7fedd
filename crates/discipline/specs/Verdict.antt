-- The verdict on a program: accepted, or the first cause for which it is refused.
use Rattle.std.specs.Prelude.{◌≡◌, ◌≤◌, ◌<◌, ℕ, List, length, ⊤, Result, Ok, Err}
use Rattle.tal_tree.specs.declared.program.Program.{Program}
use Rattle.path_semantics.specs.declared.reason.Reason.{Reason}
use Rattle.path_semantics.specs.declared.reason.Reason.TheVariants.{Data, SyncBlock, Input, Depth}
use Rattle.path_semantics.specs.declared.reason.RefusalFault.{RefusalFault}
use Rattle.path_semantics.specs.declared.reason.RefusalFault.TheVariants.{TooDeep, TooLarge, Broken, NoMemory}
use Rattle.path_semantics.specs.Accepted.{IsAccepted}
use Rattle.path_semantics.specs.Bounds.{IsWithinBounds, HasTooDeepCalls, IsTooLarge}
use Rattle.path_semantics.specs.Break.{Breaks}

-- the order in which reasons are tried: globals as they are declared, then files as they are opened, then input, then
-- depths as files are opened
abbrev pub IsEarlier : Reason → Reason → Type 0
IsEarlier (Data item) (Data other) = item < other
IsEarlier (Data item) (SyncBlock file) = Unit {0}
IsEarlier (Data item) Input = Unit {0}
IsEarlier (Data item) (Depth file) = Unit {0}
IsEarlier (SyncBlock file) (Data item) = ⊥
IsEarlier (SyncBlock file) (SyncBlock other) = file < other
IsEarlier (SyncBlock file) Input = Unit {0}
IsEarlier (SyncBlock file) (Depth other) = Unit {0}
IsEarlier Input (Data item) = ⊥
IsEarlier Input (SyncBlock file) = ⊥
IsEarlier Input Input = ⊥
IsEarlier Input (Depth file) = Unit {0}
IsEarlier (Depth file) (Data item) = ⊥
IsEarlier (Depth file) (SyncBlock other) = ⊥
IsEarlier (Depth file) Input = ⊥
IsEarlier (Depth file) (Depth other) = file < other

-- a path that breaks for a reason, than which none is shorter that breaks for it
pub record IsLeast (program : Program) (reason : Reason) (path : List ℕ) : Type 0 where
  pub breaks : Breaks program path reason
  pub least : (other : List ℕ) → Breaks program other reason → length path ≤ length other

-- no path breaks for an earlier reason
abbrev pub NoneBefore : Program → Reason → Type 0
NoneBefore program reason =
    (earlier : Reason) (path : List ℕ) → IsEarlier earlier reason → Breaks program path earlier → ⊥

-- in a program within bounds: such a path, where no path breaks for an earlier reason
pub record IsFirst (program : Program) (reason : Reason) (path : List ℕ) : Type 0 where
  pub bounds : IsWithinBounds program
  pub shortest : IsLeast program reason path
  pub first : NoneBefore program reason

-- the verdict: accepted, or calls too deep, or else too many statements with the calls written out, or else the first
-- reason with a shortest path that breaks for it. That memory ran out is free
abbrev pub IsVerdict : Program → Result ⊤ RefusalFault → Type 0
IsVerdict program (Ok _) = IsAccepted program
IsVerdict program (Err TooDeep) = HasTooDeepCalls program
IsVerdict program (Err (TooLarge size)) = IsTooLarge program size
IsVerdict program (Err (Broken reason path)) = IsFirst program reason path
IsVerdict program (Err (NoMemory _)) = Unit {0}

-- two verdicts agree but for the path, where memory sufficed for both: for one reason its paths are as long
abbrev pub Agree : Result ⊤ RefusalFault → Result ⊤ RefusalFault → Type 0
Agree (Err (NoMemory _)) _ = Unit {0}
Agree _ (Err (NoMemory _)) = Unit {0}
Agree (Ok _) (Ok _) = Unit {0}
Agree (Err TooDeep) (Err TooDeep) = Unit {0}
Agree (Err (TooLarge n)) (Err (TooLarge m)) = n ≡ m
Agree (Err (Broken reason path)) (Err (Broken other_reason other)) =
    (reason ≡ other_reason) × (length path ≡ length other)
Agree _ _ = ⊥

-- what comes of trying a reason: no path breaks for it, or the program is refused
abbrev pub IsTried : Program → Reason → Result ⊤ RefusalFault → Type 0
IsTried program reason (Ok _) = (path : List ℕ) → Breaks program path reason → ⊥
IsTried program reason (Err refusal) = IsVerdict program (Err refusal)

-- what comes of trying all reasons before this one: no path breaks for any of them, or the program is refused
abbrev pub AreTriedBefore : Program → Reason → Result ⊤ RefusalFault → Type 0
AreTriedBefore program reason (Ok _) = NoneBefore program reason
AreTriedBefore program reason (Err refusal) = IsVerdict program (Err refusal)
