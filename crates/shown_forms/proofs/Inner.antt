-- The step of a program at Inner leaves words.
use Rattle.std.proofs.Common.{◌≡◌, ℕ, ℤ, pos, Bool, true, false, List, [], ◌∷◌, ◌++◌, drop, slice_get, Option, Some}
use Rattle.std.proofs.Common.{None}
use Rattle.std.proofs.Common.{arith, refl, subst}
use Rattle.std.specs.Prelude.{◌+ℤ◌, ◌-ℤ◌}
use Rattle.gd_words.specs.Arithmetic.{wrap}
use Rattle.tal_tree.specs.declared.expression.Variable.{Variable}
use Rattle.tal_tree.specs.declared.program.Procedure.{Procedure}
use Rattle.tal_tree.specs.declared.program.Program.{Program}
use Rattle.tal_tree.specs.declared.statement.Statement.{Statement}
use Rattle.tal_tree.specs.declared.statement.What.{What, What-F, out-What}
use Rattle.tal_values.specs.Value.{cell_of, truth_of, value_of}
use Rattle.tal_values.specs.declared.memory.Cell.{Cell}
use Rattle.process_semantics.specs.Changes.{done, left, variable_cell, variable_of, with_word}
use Rattle.process_semantics.specs.Remains.{Remains}
use Rattle.process_semantics.specs.State.{Entry, Frame, Last, ProgramState, Run, Test, first_of, memory_of, next_of}
use Rattle.process_semantics.specs.State.{runs_of}
use Rattle.process_semantics.specs.Steps.{state_after_assigning, state_after_count_in, state_after_count}
use Rattle.process_semantics.specs.Steps.{state_after_entry, entered_by, for_begun, given}
use Rattle.process_semantics.specs.Steps.{given_in, given_to, goes_round, inner, inner_entry, inner_in, or_ends}
use Rattle.process_semantics.specs.Steps.{result_of}
use Rattle.process_semantics.specs.Steps.{state_after_return, tested, tested_in, values_of}
use Rattle.process_semantics.proofs.Standing.{entry-stands}
use Rattle.whole_states.specs.Whole.{AreFrames, IsFrame}
use Rattle.told_reports.specs.Words.{AreWords, IsWord}
use Rattle.shown_forms.specs.Numbers.{HasWordNumbers, HasWords}
use Rattle.shown_forms.proofs.Lists.{IfSo, IfWord, wrapped-word}
use Rattle.shown_forms.proofs.States.{HasStateWords, before-words, done-words, ends-words, entering-words, left-words}
use Rattle.shown_forms.proofs.States.{local-words, word-words}
use Rattle.shown_forms.proofs.Values.{answer-word, value-word, values-words}

abbrev IfState : Option ProgramState → Type 0
IfState next = IfSo HasStateWords next

or-ends : (s : ProgramState) (next : Option ProgramState) → HasStateWords s → IfState next
    → HasStateWords (or_ends s next)
or-ends s None has is = ends-words s has
or-ends s (Some next) has is = is

assigned-words : (s : ProgramState) (to : Option Cell) (value : Option ℤ) → IfWord value → HasStateWords s
    → IfState (state_after_assigning s to value)
assigned-words s to None is has = tt
assigned-words s None (Some word) is has = tt
assigned-words s (Some to) (Some word) is has = done-words (with_word to word s) (word-words to word s is has)

tested-words : (s : ProgramState) (first second : List Entry) (holds : Option Bool) → HasStateWords s
    → IfState (tested s first second holds)
tested-words s first second None has = tt
tested-words s first second (Some true) has = before-words first (done s) (done-words s has)
tested-words s first second (Some false) has = before-words second (done s) (done-words s has)

begun-words : (s : ProgramState) (statement : Statement) (variable : Variable) (value : Option ℤ) → IfWord value
    → HasStateWords s → IfState (for_begun s statement variable value)
begun-words s statement variable None is has = tt
begun-words s statement variable (Some word) is has =
    let put = with_word (variable_cell variable) word s in
    before-words (Test statement ∷ []) (done put) (done-words put (word-words (variable_cell variable) word s is has))

counted-words : (s : ProgramState) (to : Cell) (down : Bool) (step : ℤ) (value : Option ℤ) → HasStateWords s
    → IfState (state_after_count s to down step value)
counted-words s to down step None has = tt
counted-words s to false step (Some word) has =
    let next = wrap (word +ℤ step) in
    done-words (with_word to next s) (word-words to next s (wrapped-word (word +ℤ step)) has)
counted-words s to true step (Some word) has =
    let next = wrap (word -ℤ step) in
    done-words (with_word to next s) (word-words to next s (wrapped-word (word -ℤ step)) has)

module _ (program : Program) where
  entered-by-words : (s : ProgramState) (number : ℕ) (arguments : List ℤ) (o : Option Procedure) → AreWords arguments
      → HasStateWords s → IfState (entered_by s number arguments o)
  entered-by-words s number arguments None are has = tt
  entered-by-words s number arguments (Some procedure) are has = entering-words number arguments procedure s are has

  entered-words : (s : ProgramState) (number : ℕ) (values : Option (List ℤ)) → IfSo AreWords values → HasStateWords s
      → IfState (state_after_entry program s number values)
  entered-words s number None are has = tt
  entered-words s number (Some arguments) are has =
      entered-by-words s number arguments (slice_get program.procedures number) are has

  given-in-words : (word : ℤ) (s : ProgramState) (layer : What-F What Statement) → IsWord word → HasStateWords s
      → IfState (given_in program word s layer)
  given-in-words word s (What-F.AssignCall to procedure arguments) is has =
      assigned-words s (cell_of (memory_of program s) to) (Some word) is has
  given-in-words word s _ is has = done-words s has

  given-words : (word : ℤ) (s : ProgramState) (entry : Option Entry) → IsWord word → HasStateWords s
      → IfState (given program word s entry)
  given-words word s None is has = done-words s has
  given-words word s (Some (Run statement)) is has = given-in-words word s (out-What statement.what) is has
  given-words word s (Some (Test statement)) is has = done-words s has
  given-words word s (Some (Last statement)) is has = done-words s has

  given-to-words : (word : ℤ) (s : ProgramState) (frames : List Frame) → IsWord word → HasStateWords s
      → IfState (given_to program word s frames)
  given-to-words word s [] is has = ends-words s has
  given-to-words word s (caller ∷ callers) is has = given-words word s (first_of caller.rest) is has

  returned-words : (s : ProgramState) (value : Option ℤ) → IfWord value → HasStateWords s
      → IfState (state_after_return program s value)
  returned-words s None is has = tt
  returned-words s (Some word) is has = given-to-words word (left s) (drop 1 s.frames) is (left-words s has)

  run-words : (s : ProgramState) (statement : Statement) (layer : What-F What Statement) → HasWords layer
      → HasStateWords s → IfState (inner_in program s statement layer)
  run-words s statement (What-F.Assign to value) words has =
      assigned-words s (cell_of (memory_of program s) to) (value_of (memory_of program s) value)
      (value-word (memory_of program s) has.0 (local-words s.frames has.1) value words) has
  run-words s statement (What-F.AssignCall to number arguments) words has =
      entered-words s number (values_of (memory_of program s) arguments)
      (values-words (memory_of program s) has.0 (local-words s.frames has.1) arguments words) has
  run-words s statement (What-F.If test first second) words has =
      tested-words s (runs_of first) (runs_of second) (truth_of (memory_of program s) test) has
  run-words s statement (What-F.While test body) words has =
      tested-words s (runs_of body ++ Run statement ∷ []) [] (truth_of (memory_of program s) test) has
  run-words s statement (What-F.DoUntil body test) words has =
      tested-words s [] (runs_of body ++ Run statement ∷ []) (truth_of (memory_of program s) test) has
  run-words s statement (What-F.For variable from to down step body last) words has =
      begun-words s statement variable (value_of (memory_of program s) from)
      (value-word (memory_of program s) has.0 (local-words s.frames has.1) from words) has
  run-words s statement (What-F.Call number arguments) words has =
      entered-words s number (values_of (memory_of program s) arguments)
      (values-words (memory_of program s) has.0 (local-words s.frames has.1) arguments words) has
  run-words s statement (What-F.Return value) words has =
      returned-words s (result_of (memory_of program s) value)
      (answer-word (memory_of program s) has.0 (local-words s.frames has.1) value words) has
  run-words s statement What-F.CheckMonitor words has = done-words s has
  run-words s statement (What-F.Open file) words has = done-words s has
  run-words s statement What-F.Stop words has = ends-words s has
  run-words s statement (What-F.ReadUpdate buffer most got) words has = tt
  run-words s statement (What-F.Reply buffer count) words has = tt
  run-words s statement (What-F.WriteRead file buffer send room got) words has = tt
  run-words s statement (What-F.Checkpoint items files) words has = tt

  test-words : (s : ProgramState) (statement : Statement) (layer : What-F What Statement) → HasStateWords s
      → IfState (tested_in program s statement layer)
  test-words s statement (What-F.For variable from to down step body last) has =
      tested-words s (runs_of body ++ Last statement ∷ Test statement ∷ []) []
      (goes_round down (variable_of program s variable) (value_of (memory_of program s) to)) has
  test-words s statement _ has = tt

  last-words : (s : ProgramState) (layer : What-F What Statement) → HasStateWords s
      → IfState (state_after_count_in program s layer)
  last-words s (What-F.For variable from to down step body last) has =
      counted-words s (variable_cell variable) down step (variable_of program s variable) has
  last-words s _ has = tt

  -- the statement that comes next is one of the program
  entry-words : HasWordNumbers program → (s : ProgramState) (frame : Frame) → IsFrame program frame
      → (rest : List Entry)
      → frame.rest ≡ rest → HasStateWords s → IfState (inner_entry program s (first_of rest))
  entry-words numbers s frame is [] same has = returned-words s (Some (pos 0)) (omega arith) has
  entry-words numbers s frame is (Run statement ∷ tail) same has =
      run-words s statement (out-What statement.what)
      (numbers frame.procedure is.procedure is.there statement
      (entry-stands is.procedure.body (Run statement) tail (subst (Remains is.procedure.body) same is.rest))) has
  entry-words numbers s frame is (Test statement ∷ tail) same has =
      test-words s statement (out-What statement.what) has
  entry-words numbers s frame is (Last statement ∷ tail) same has = last-words s (out-What statement.what) has

  next-entry-words : HasWordNumbers program → (s : ProgramState) (frames : List Frame) → AreFrames program frames
      → HasStateWords s → IfState (inner_entry program s (next_of frames))
  next-entry-words numbers s [] are has = returned-words s (Some (pos 0)) (omega arith) has
  next-entry-words numbers s (frame ∷ callers) are has =
      entry-words numbers s frame are.0 frame.rest refl has

  pub inner-words : HasWordNumbers program → (s : ProgramState) → AreFrames program s.frames → HasStateWords s
      → HasStateWords (inner program s)
  inner-words numbers s are has =
      or-ends s (inner_entry program s (next_of s.frames)) has (next-entry-words numbers s s.frames are has)
