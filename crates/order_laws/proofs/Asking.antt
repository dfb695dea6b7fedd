-- A process that asks awaits the reply then.
use Rattle.std.proofs.Common.{◌≡◌, ℕ, ℤ, List, Bool, true, false, if◌then◌else◌, Option, Some, None, refl}
use Rattle.tal_tree.specs.declared.statement.What.{What, What-F}
use Rattle.tal_tree.specs.declared.statement.What.{out-What}
use Rattle.tal_tree.specs.declared.statement.Statement.{Statement}
use Rattle.tal_tree.specs.declared.program.Program.{Program}
use Rattle.plain_semantics.specs.process_semantics.specs.declared.point.Point.{Point}
use Rattle.plain_semantics.specs.process_semantics.specs.declared.point.Point.TheVariants as point
use Rattle.plain_semantics.specs.process_semantics.specs.Changes.{with_waiting}
use Rattle.plain_semantics.specs.process_semantics.specs.Points.{point_at, point_in, where_good}
use Rattle.plain_semantics.specs.process_semantics.specs.Process as process
use Rattle.plain_semantics.specs.process_semantics.specs.Process.{ProcessState, Runs, Serves}
use Rattle.plain_semantics.specs.process_semantics.specs.State.{Entry, ProgramState, Last, Run, Test, count_of, next_of}

-- a disc never asks
abbrev pub NeverAsks : ProcessState → Type 0
NeverAsks (Runs code s) = Unit {0}
NeverAsks (Serves sectors s) = s.label ≡ point.Ask → ⊥

good-asks : (one : Point) (count : Option ℕ) → (one ≡ point.Ask → ⊥) → where_good one count ≡ point.Ask → ⊥
good-asks one None never at = cc
good-asks one (Some n) never at = never at

take-asks : (hand : Bool) (count : Option ℕ)
    → (if hand then point.Inner else where_good point.Take count) ≡ point.Ask → ⊥
take-asks true count at = cc
take-asks false count at = good-asks point.Take count (λ e. cc) at

answer-asks : (hand : Bool) (count : Option ℕ)
    → (if hand then where_good point.Answer count else point.Inner) ≡ point.Ask → ⊥
answer-asks true count at = good-asks point.Answer count (λ e. cc) at
answer-asks false count at = cc

what-awaits : (code : Program) (s : ProgramState) (what : What-F What Statement) → point_in code s what ≡ point.Ask
    → point_in code (with_waiting true s) what ≡ point.Await
what-awaits code s (What-F.WriteRead file buffer send room got) at = refl
what-awaits code s (What-F.ReadUpdate buffer most got) at =
    absurd (take-asks s.in_hand (count_of code s buffer most) at)
what-awaits code s (What-F.Reply buffer count) at = absurd (answer-asks s.in_hand (count_of code s buffer count) at)
what-awaits code s (What-F.Checkpoint items files) at = absurd (cc)
what-awaits code s (What-F.Assign to value) at = absurd (cc)
what-awaits code s (What-F.AssignCall to procedure arguments) at = absurd (cc)
what-awaits code s (What-F.If test first second) at = absurd (cc)
what-awaits code s (What-F.While test body) at = absurd (cc)
what-awaits code s (What-F.For variable from to down step body last) at = absurd (cc)
what-awaits code s (What-F.DoUntil body test) at = absurd (cc)
what-awaits code s (What-F.Call procedure arguments) at = absurd (cc)
what-awaits code s (What-F.Return value) at = absurd (cc)
what-awaits code s What-F.CheckMonitor at = absurd (cc)
what-awaits code s (What-F.Open file) at = absurd (cc)
what-awaits code s What-F.Stop at = absurd (cc)

entry-awaits : (code : Program) (s : ProgramState) (entry : Option Entry) → point_at code s entry ≡ point.Ask
    → point_at code (with_waiting true s) entry ≡ point.Await
entry-awaits code s None at = absurd (cc)
entry-awaits code s (Some (Run statement)) at = what-awaits code s (out-What statement.what) at
entry-awaits code s (Some (Test statement)) at = absurd (cc)
entry-awaits code s (Some (Last statement)) at = absurd (cc)

program-awaits : (code : Program) (s : ProgramState) (ended : Bool)
    → (if ended then point.Ended else point_at code s (next_of s.frames)) ≡ point.Ask
    → (if ended then point.Ended else point_at code (with_waiting true s) (next_of s.frames)) ≡ point.Await
program-awaits code s true at = absurd (cc)
program-awaits code s false at = entry-awaits code s (next_of s.frames) at

pub asked-awaits : (s : ProcessState) → NeverAsks s → process.point s ≡ point.Ask
    → process.point (process.after_asked s) ≡ point.Await
asked-awaits (Runs code s) never at = program-awaits code s s.ended at
asked-awaits (Serves sectors s) never at = absurd (never at)

pub asked-same : (s : ProcessState) → process.asked_file (process.after_asked s) ≡ process.asked_file s
asked-same (Runs code s) = refl
asked-same (Serves sectors s) = refl

pub inner-never : (s : ProcessState) → NeverAsks s → NeverAsks (process.after_inner s)
inner-never (Runs code s) never = tt
inner-never (Serves sectors s) never = never

pub asked-never : (s : ProcessState) → NeverAsks s → NeverAsks (process.after_asked s)
asked-never (Runs code s) never = tt
asked-never (Serves sectors s) never = never

pub got-never : (s : ProcessState) (words : List ℤ) → NeverAsks s → NeverAsks (process.after_got s words)
got-never (Runs code s) words never = tt
got-never (Serves sectors s) words never = never

pub took-never : (s : ProcessState) (words : List ℤ) → NeverAsks s → NeverAsks (process.after_took s words)
took-never (Runs code s) words never = tt
took-never (Serves sectors s) words never = λ e. cc

pub answered-never : (s : ProcessState) → NeverAsks s → NeverAsks (process.after_answered s)
answered-never (Runs code s) never = tt
answered-never (Serves sectors s) never = λ e. cc

pub checkpoint-never : (s : ProcessState) → NeverAsks s → NeverAsks (process.after_checkpoint s)
checkpoint-never (Runs code s) never = tt
checkpoint-never (Serves sectors s) never = λ e. cc

pub device-never : (s : ProcessState) (found : List ℤ) → NeverAsks s → NeverAsks (process.after_device s found)
device-never (Runs code s) found never = tt
device-never (Serves sectors s) found never = λ e. cc
