-- The point of a program, its steps at the points of calls and what it tells there are those of its deed.
use Rattle.std.proofs.Common.{◌≡◌, ℕ, ℤ, List, [], ◌∷◌, Option, Some, refl, ap}
use Rattle.std.specs.Prelude.{if◌then◌else◌}
use Rattle.tal_tree.specs.declared.program.Program.{Program}
use Rattle.tal_tree.specs.declared.statement.Statement.{Statement}
use Rattle.tal_tree.specs.declared.statement.What.{What, What-F, out-What}
use Rattle.process_semantics.specs.Calls.{took_in, got_in, file_in, asked_in, answer_in, after_took, after_got}
use Rattle.process_semantics.specs.Calls.{asked_file, asked_words, answer_of}
use Rattle.process_semantics.specs.Image.{listed_items_in, listed_files_in, listed_items, listed_files}
use Rattle.process_semantics.specs.Points.{point_in, point_at, point_of}
use Rattle.process_semantics.specs.Process.{Runs}
use Rattle.process_semantics.specs.State.{Entry, Run, Test, Last, ProgramState, rest_of, first_of, in_entry}
use Rattle.process_semantics.specs.declared.point.Point.{Point}
use Rattle.process_semantics.specs.declared.point.Point.TheVariants as point
use Rattle.program_deeds.specs.Deed.{Deed, deed_run, deed_test, deed_last, deed_of}
use Rattle.program_deeds.specs.Doing.{point_by, deed_point, deed_took, deed_file, deed_asked, deed_got, deed_answer}
use Rattle.program_deeds.specs.Doing.{deed_items, deed_files}

-- all that the calls do and tell at a place, so that one equation says it of a statement and its deed
record Told : Type 0 where
  stands : Point
  took : ProgramState
  file : ℕ
  asked : List ℤ
  got : ProgramState
  answer : List ℤ
  items : List ℕ
  files : List ℕ

module _ (program : Program) (s : ProgramState) (words : List ℤ) where
  abbrev told-in : What-F What Statement → Told
  told-in what = record {
    stands = point_in program s what;
    took = took_in program s words what;
    file = file_in what;
    asked = asked_in program s what;
    got = got_in program s words what;
    answer = answer_in program s what;
    items = listed_items_in what;
    files = listed_files_in what;
  }

  abbrev told-at : Option Entry → Told
  told-at next = record {
    stands = point_at program s next;
    took = in_entry s (took_in program s words) next;
    file = in_entry 0 file_in next;
    asked = in_entry [] (asked_in program s) next;
    got = in_entry s (got_in program s words) next;
    answer = in_entry [] (answer_in program s) next;
    items = in_entry [] listed_items_in next;
    files = in_entry [] listed_files_in next;
  }

  abbrev told-by : Deed → Told
  told-by deed = record {
    stands = point_by program s deed;
    took = deed_took program s words deed;
    file = deed_file deed;
    asked = deed_asked program s deed;
    got = deed_got program s words deed;
    answer = deed_answer program s deed;
    items = deed_items deed;
    files = deed_files deed;
  }

  run-told : (after : List Entry) (statement : Statement) (what : What-F What Statement)
      → told-in what ≡ told-by (deed_run after statement what)
  run-told after statement (What-F.Assign to value) = refl
  run-told after statement (What-F.AssignCall to procedure arguments) = refl
  run-told after statement (What-F.If test first second) = refl
  run-told after statement (What-F.While test body) = refl
  run-told after statement (What-F.For variable from to down step body last) = refl
  run-told after statement (What-F.DoUntil body test) = refl
  run-told after statement (What-F.Call procedure arguments) = refl
  run-told after statement (What-F.Return value) = refl
  run-told after statement (What-F.ReadUpdate buffer most got) = refl
  run-told after statement (What-F.Reply buffer count) = refl
  run-told after statement (What-F.WriteRead file buffer send room got) = refl
  run-told after statement (What-F.Checkpoint items files) = refl
  run-told after statement What-F.CheckMonitor = refl
  run-told after statement (What-F.Open file) = refl
  run-told after statement What-F.Stop = refl

  test-told : (after : List Entry) (statement : Statement) (what : What-F What Statement)
      → told-at (Some (Test statement)) ≡ told-by (deed_test after statement what)
  test-told after statement (What-F.Assign to value) = refl
  test-told after statement (What-F.AssignCall to procedure arguments) = refl
  test-told after statement (What-F.If test first second) = refl
  test-told after statement (What-F.While test body) = refl
  test-told after statement (What-F.For variable from to down step body last) = refl
  test-told after statement (What-F.DoUntil body test) = refl
  test-told after statement (What-F.Call procedure arguments) = refl
  test-told after statement (What-F.Return value) = refl
  test-told after statement (What-F.ReadUpdate buffer most got) = refl
  test-told after statement (What-F.Reply buffer count) = refl
  test-told after statement (What-F.WriteRead file buffer send room got) = refl
  test-told after statement (What-F.Checkpoint items files) = refl
  test-told after statement What-F.CheckMonitor = refl
  test-told after statement (What-F.Open file) = refl
  test-told after statement What-F.Stop = refl

  last-told : (after : List Entry) (statement : Statement) (what : What-F What Statement)
      → told-at (Some (Last statement)) ≡ told-by (deed_last after what)
  last-told after statement (What-F.Assign to value) = refl
  last-told after statement (What-F.AssignCall to procedure arguments) = refl
  last-told after statement (What-F.If test first second) = refl
  last-told after statement (What-F.While test body) = refl
  last-told after statement (What-F.For variable from to down step body last) = refl
  last-told after statement (What-F.DoUntil body test) = refl
  last-told after statement (What-F.Call procedure arguments) = refl
  last-told after statement (What-F.Return value) = refl
  last-told after statement (What-F.ReadUpdate buffer most got) = refl
  last-told after statement (What-F.Reply buffer count) = refl
  last-told after statement (What-F.WriteRead file buffer send room got) = refl
  last-told after statement (What-F.Checkpoint items files) = refl
  last-told after statement What-F.CheckMonitor = refl
  last-told after statement (What-F.Open file) = refl
  last-told after statement What-F.Stop = refl

  rest-told : (rest : List Entry) → told-at (first_of rest) ≡ told-by (deed_of rest)
  rest-told [] = refl
  rest-told (Run statement ∷ after) = run-told after statement (out-What statement.what)
  rest-told (Test statement ∷ after) = test-told after statement (out-What statement.what)
  rest-told (Last statement ∷ after) = last-told after statement (out-What statement.what)

pub point-is : (program : Program) (s : ProgramState)
    → point_of program s ≡ deed_point program s (deed_of (rest_of s.frames))
point-is program s =
    ap (λ (told : Told). if s.ended then point.Ended else told.stands) (rest-told program s [] (rest_of s.frames))

pub took-is : (program : Program) (s : ProgramState) (words : List ℤ)
    → after_took program s words ≡ deed_took program s words (deed_of (rest_of s.frames))
took-is program s words = ap (λ (told : Told). told.took) (rest-told program s words (rest_of s.frames))

-- the file doesn't depend on the program: any one serves
pub file-is : (s : ProgramState) → asked_file s ≡ deed_file (deed_of (rest_of s.frames))
file-is s = ap (λ (told : Told). told.file)
    (rest-told (record { items = []; files = []; procedures = []; main = 0 }) s [] (rest_of s.frames))

pub asked-is : (program : Program) (s : ProgramState)
    → asked_words program s ≡ deed_asked program s (deed_of (rest_of s.frames))
asked-is program s = ap (λ (told : Told). told.asked) (rest-told program s [] (rest_of s.frames))

pub got-is : (program : Program) (s : ProgramState) (words : List ℤ)
    → after_got program s words ≡ deed_got program s words (deed_of (rest_of s.frames))
got-is program s words = ap (λ (told : Told). told.got) (rest-told program s words (rest_of s.frames))

pub answer-is : (program : Program) (s : ProgramState)
    → answer_of program s ≡ deed_answer program s (deed_of (rest_of s.frames))
answer-is program s = ap (λ (told : Told). told.answer) (rest-told program s [] (rest_of s.frames))

pub items-are : (program : Program) (s : ProgramState)
    → listed_items (Runs program s) ≡ deed_items (deed_of (rest_of s.frames))
items-are program s = ap (λ (told : Told). told.items) (rest-told program s [] (rest_of s.frames))

pub files-are : (program : Program) (s : ProgramState)
    → listed_files (Runs program s) ≡ deed_files (deed_of (rest_of s.frames))
files-are program s = ap (λ (told : Told). told.files) (rest-told program s [] (rest_of s.frames))
