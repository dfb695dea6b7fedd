-- A program begins in a whole state, and its steps at Take, Ask, Await, Answer and Checkpoint come to whole states.
use Rattle.std.proofs.Common.{◌≡◌, ℕ, ℤ, Bool, true, false, List, [], ◌∷◌, Option, Some, None, slice_get, refl, ap}
use Rattle.std.proofs.Common.{subst, sym, arith}
use Rattle.process_semantics.specs.tal_tree.specs.Regular.{IsRegular}
use Rattle.process_semantics.specs.tal_tree.specs.declared.expression.Variable.{Variable}
use Rattle.process_semantics.specs.tal_tree.specs.declared.expression.Variable.TheVariants.{Local, Simple}
use Rattle.process_semantics.specs.tal_tree.specs.declared.program.Program.{Program}
use Rattle.process_semantics.specs.tal_tree.specs.declared.statement.Statement.{Statement}
use Rattle.process_semantics.specs.tal_tree.specs.declared.statement.What.{What, What-F, out-What}
use Rattle.process_semantics.specs.tal_values.specs.Value.{value_of}
use Rattle.process_semantics.specs.Calls.{received, took_in, got_in, after_took, after_asked, after_got, after_answered}
use Rattle.process_semantics.specs.Calls.{after_checkpoint}
use Rattle.process_semantics.specs.Changes.{with_waiting}
use Rattle.process_semantics.specs.Image.{is_empty}
use Rattle.process_semantics.specs.Points.{point_of}
use Rattle.process_semantics.specs.State.{ProgramState, start, first_frames, frame_of, memory_of, count_of}
use Rattle.process_semantics.specs.declared.point.Point.TheVariants as point
use Rattle.process_semantics.proofs.Points.{AtCall, at_read, at_await, stands-at, in-next}
use Rattle.whole_states.specs.Whole.{AreFrames, IsWhole}
use Rattle.whole_states.proofs.Awake.{IsAwake, whole-waked, awake-at, done-awake, hand-awake, received-awake}
use Rattle.whole_states.proofs.Frames.{entered-frame}
use Rattle.whole_states.proofs.Globals.{first-sizes}

pub start-awake : (program : Program) → IsRegular program → IsAwake program (start program)
start-awake program regular = record {
  frames = subst (AreFrames program) (sym first)
      (entered-frame program.main [] regular.main.0 regular.main.1 (omega arith), (refl, tt));
  globals = first-sizes program.items;
  ended = sym (ap is_empty first);
  free = refl;
}
  where
    first : first_frames program.main (slice_get program.procedures program.main)
        ≡ frame_of program.main [] regular.main.0 ∷ []
    first = ap (first_frames program.main) regular.main.1

pub took-awake : (program : Program) (s : ProgramState) (words : List ℤ) → point_of program s ≡ point.Take
    → IsWhole program s
    → IsAwake program (after_took program s words)
took-awake program s words at is =
    let stands = stands-at program s point.Take (λ same. cc) (λ same. cc) at in
    subst (IsAwake program) (sym (in-next s (took_in program s words) s.frames stands.statement stands.next))
    (by (out-What stands.statement.what) stands.call (awake-at program s point.Take at (λ same. cc) is))
  where
    by : (layer : What-F What Statement) → AtCall program s layer point.Take → IsAwake program s
        → IsAwake program (took_in program s words layer)
    by _ (at_read buffer most got free good) is =
        hand-awake true (received-awake buffer got words (value_of (memory_of program s) most) is)

-- the same words come to the same cells whether a reply is awaited or not
received-waked : (s : ProgramState) (buffer : ℕ) (got : Variable) (words : List ℤ) (room : Option ℕ)
    → with_waiting false (received s buffer got words room) ≡ received (with_waiting false s) buffer got words room
received-waked s buffer got words None = refl
received-waked s buffer (Local local) words (Some n) = refl
received-waked s buffer (Simple item) words (Some n) = refl

pub got-awake : (program : Program) (s : ProgramState) (words : List ℤ) → point_of program s ≡ point.Await
    → IsWhole program s
    → IsAwake program (after_got program s words)
got-awake program s words at is =
    let stands = stands-at program s point.Await (λ same. cc) (λ same. cc) at in
    subst (IsAwake program) (sym (in-next s (got_in program s words) s.frames stands.statement stands.next))
    (by (out-What stands.statement.what) stands.call)
  where
    by : (layer : What-F What Statement) → AtCall program s layer point.Await
        → IsAwake program (got_in program s words layer)
    by _ (at_await file buffer send room got waits) =
        subst (IsAwake program) (sym (received-waked s buffer got words (count_of program s buffer room)))
        (received-awake buffer got words (value_of (memory_of program s) room) (whole-waked is))

pub asked-whole : (program : Program) (s : ProgramState) → point_of program s ≡ point.Ask → IsWhole program s
    → IsWhole program (after_asked s)
asked-whole program s at is = record {
  frames = is.frames;
  globals = is.globals;
  ended = is.ended;
  awaits = λ waits. subst (λ (b : Bool). point_of program (with_waiting b s) ≡ point.Ask) free at;
}
  where
    free : s.awaits ≡ false
    free = (awake-at program s point.Ask at (λ same. cc) is).free

pub answered-awake : (program : Program) (s : ProgramState) → point_of program s ≡ point.Answer → IsWhole program s
    → IsAwake program (after_answered s)
answered-awake program s at is = hand-awake false (done-awake (awake-at program s point.Answer at (λ same. cc) is))

pub checkpointed-awake : (program : Program) (s : ProgramState) → point_of program s ≡ point.AtCheckpoint → IsWhole
    program s
    → IsAwake program (after_checkpoint s)
checkpointed-awake program s at is = done-awake (awake-at program s point.AtCheckpoint at (λ same. cc) is)
