-- Where a program stands at each point but Inner and Ended: at which call, and what is in hand and awaited there.
use Rattle.std.proofs.Common.{◌≡◌, ◌≢◌, ℕ, Bool, true, false, if◌then◌else◌, List, [], ◌∷◌, Option, Some, None, is_some}
use Rattle.std.proofs.Common.{refl, ap, subst, sym, ◌∙◌}
use Rattle.tal_values.specs.tal_tree.specs.declared.program.Program.{Program}
use Rattle.tal_values.specs.tal_tree.specs.declared.expression.Expr.{Expr}
use Rattle.tal_values.specs.tal_tree.specs.declared.expression.Variable.{Variable}
use Rattle.tal_values.specs.tal_tree.specs.declared.statement.Statement.{Statement}
use Rattle.tal_values.specs.tal_tree.specs.declared.statement.What.{What, What-F, out-What}
use Rattle.process_semantics.specs.declared.point.Point.{Point}
use Rattle.process_semantics.specs.declared.point.Point.TheVariants as point
use Rattle.process_semantics.specs.Points.{where_good, where_both_good, point_in, point_at, point_of}
use Rattle.process_semantics.specs.State.{Entry, Run, Test, Last, Frame, ProgramState, first_of, next_of, count_of}
use Rattle.process_semantics.specs.State.{in_entry, in_next}

-- what a statement is at each point
pub data AtCall (program : Program) (s : ProgramState) : What-F What Statement → Point → Type 0 where
  inside : {what : What-F What Statement} → AtCall program s what point.Inner
  at_read : (buffer : ℕ) (most : Expr) (got : Variable) → s.in_hand ≡ false
      → is_some (count_of program s buffer most) ≡ true
      → AtCall program s (What-F.ReadUpdate buffer most got) point.Take
  at_ask : (file buffer : ℕ) (send room : Expr) (got : Variable) → s.awaits ≡ false
      → is_some (count_of program s buffer room) ≡ true
      → AtCall program s (What-F.WriteRead file buffer send room got) point.Ask
  at_await : (file buffer : ℕ) (send room : Expr) (got : Variable) → s.awaits ≡ true
      → AtCall program s (What-F.WriteRead file buffer send room got) point.Await
  at_reply : (buffer : ℕ) (count : Expr) → s.in_hand ≡ true → AtCall program s (What-F.Reply buffer count) point.Answer
  at_checkpoint : (items files : List ℕ) → AtCall program s (What-F.Checkpoint items files) point.AtCheckpoint

at-call : (program : Program) (s : ProgramState) (what : What-F What Statement)
    → AtCall program s what (point_in program s what)
at-call program s (What-F.ReadUpdate buffer most got) = by s.in_hand refl (count_of program s buffer most) refl
  where
    by : (held : Bool) → s.in_hand ≡ held → (n : Option ℕ) → count_of program s buffer most ≡ n
        → AtCall program s (What-F.ReadUpdate buffer most got) (if held then point.Inner else where_good point.Take n)
    by true held n count = inside
    by false free None count = inside
    by false free (Some n) count = at_read buffer most got free (ap is_some count)
at-call program s (What-F.WriteRead file buffer send room got) =
    by s.awaits refl (count_of program s buffer send) (count_of program s buffer room) refl
  where
    by : (awaits : Bool) → s.awaits ≡ awaits → (m n : Option ℕ) → count_of program s buffer room ≡ n
        → AtCall program s (What-F.WriteRead file buffer send room got)
        (if awaits then point.Await else where_both_good point.Ask m n)
    by true awaits m n count = at_await file buffer send room got awaits
    by false free None n count = inside
    by false free (Some m) None count = inside
    by false free (Some m) (Some n) count = at_ask file buffer send room got free (ap is_some count)
at-call program s (What-F.Reply buffer count) = by s.in_hand refl (count_of program s buffer count)
  where
    by : (held : Bool) → s.in_hand ≡ held → (n : Option ℕ)
        → AtCall program s (What-F.Reply buffer count) (if held then where_good point.Answer n else point.Inner)
    by false free n = inside
    by true held None = inside
    by true held (Some n) = at_reply buffer count held
at-call program s (What-F.Checkpoint items files) = at_checkpoint items files
at-call program s _ = inside

-- a program that stands at a statement
pub record StandsAt (program : Program) (s : ProgramState) (p : Point) : Type 0 where
  pub statement : Statement
  pub rest : List Entry
  pub frame : Frame
  pub callers : List Frame
  pub frames : s.frames ≡ frame ∷ callers
  pub first : frame.rest ≡ Run statement ∷ rest
  pub next : next_of s.frames ≡ Some (Run statement)
  pub alive : s.ended ≡ false
  pub call : AtCall program s (out-What statement.what) p

if-ended : (ended : Bool) (p q : Point) → q ≢ point.Ended → (if ended then point.Ended else p) ≡ q
    → (ended ≡ false) × (p ≡ q)
if-ended true p q not_ended is = absurd (not_ended (sym is))
if-ended false p q not_ended is = (refl, is)

pub stands-at : (program : Program) (s : ProgramState) (p : Point) → p ≢ point.Inner → p ≢ point.Ended
    → point_of program s ≡ p → StandsAt program s p
stands-at program s p inner ended is = let runs =
    if-ended s.ended (point_at program s (next_of s.frames)) p ended is in by_frames runs.0 s.frames refl runs.1
  where
    by_rest : s.ended ≡ false → (frame : Frame) (callers : List Frame) → s.frames ≡ frame ∷ callers
        → (rest : List Entry) → frame.rest ≡ rest
        → point_at program s (first_of rest) ≡ p → StandsAt program s p
    by_rest alive frame callers frames [] first is = absurd (inner (sym is))
    by_rest alive frame callers frames (Run statement ∷ rest) first is = record {
      statement = statement;
      rest = rest;
      frame = frame;
      callers = callers;
      frames = frames;
      first = first;
      next = ap next_of frames ∙ ap first_of first;
      alive = alive;
      call = subst (AtCall program s (out-What statement.what)) is (at-call program s (out-What statement.what));
    }
    by_rest alive frame callers frames (Test statement ∷ rest) first is = absurd (inner (sym is))
    by_rest alive frame callers frames (Last statement ∷ rest) first is = absurd (inner (sym is))

    by_frames : s.ended ≡ false → (frames : List Frame) → s.frames ≡ frames → point_at program s (next_of frames) ≡ p
        → StandsAt program s p
    by_frames alive [] frames is = absurd (inner (sym is))
    by_frames alive (frame ∷ callers) frames is = by_rest alive frame callers frames frame.rest refl is

-- what a function gives of the next statement
pub in-next : {A : Type 0} (none : A) (f : What-F What Statement → A) (frames : List Frame) (statement : Statement)
    → next_of frames ≡ Some (Run statement)
    → in_next none f frames ≡ f (out-What statement.what)
in-next none f frames statement next = ap (in_entry none f) next

pub free-at : {program : Program} {s : ProgramState} {what : What-F What Statement} → AtCall program s what point.Take
    → s.in_hand ≡ false
free-at (at_read buffer most got free good) = free

pub awaits-at : {program : Program} {s : ProgramState} {what : What-F What Statement}
    → AtCall program s what point.Await → s.awaits ≡ true
awaits-at (at_await file buffer send room got awaits) = awaits
