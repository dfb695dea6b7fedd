-- The step at Inner comes to a whole state that awaits nothing.
use Rattle.std.proofs.Common.{◌≡◌, ◌≤◌, inl, inr, ℕ, suc, ℤ, pos, Bool, true, false, List, [], ◌∷◌, ◌++◌, length}
use Rattle.std.proofs.Common.{Option, Some, None, refl, ap, sym, subst, ◌∙◌, append_assoc, option_and_then}
use Rattle.std.specs.Option.{option_map}
use Rattle.process_semantics.specs.gd_words.specs.Members.{IsAmong}
use Rattle.process_semantics.specs.tal_tree.specs.Regular.{IsCalled, IsRegular, IsRegularStatement}
use Rattle.process_semantics.specs.tal_tree.specs.Statements.{called_in}
use Rattle.process_semantics.specs.tal_tree.specs.declared.expression.Expr.{Expr}
use Rattle.process_semantics.specs.tal_tree.specs.declared.expression.Variable.{Variable}
use Rattle.process_semantics.specs.tal_tree.specs.declared.program.Procedure.{Procedure}
use Rattle.process_semantics.specs.tal_tree.specs.declared.program.Program.{Program}
use Rattle.process_semantics.specs.tal_tree.specs.declared.statement.Statement.{Statement}
use Rattle.process_semantics.specs.tal_tree.specs.declared.statement.What.{What, What-F, out-What}
use Rattle.process_semantics.specs.tal_values.specs.Value.{Memory, value_of}
use Rattle.process_semantics.specs.tal_values.specs.declared.memory.Cell.{Cell}
use Rattle.process_semantics.specs.Changes.{variable_cell}
use Rattle.process_semantics.specs.Remains.{ways_into, ways_round, leads_to}
use Rattle.process_semantics.specs.State.{Entry, Run, Test, Last, Frame, ProgramState, runs_of, first_of, next_of}
use Rattle.process_semantics.specs.State.{rest_of, memory_of}
use Rattle.process_semantics.specs.Steps.{values_of, state_after_assigning, tested, entered_by, state_after_entry}
use Rattle.process_semantics.specs.Steps.{given_in, given, given_to}
use Rattle.process_semantics.specs.Steps.{state_after_return, for_begun, inner_in, tested_in, state_after_count}
use Rattle.process_semantics.specs.Steps.{state_after_count_in, inner_entry}
use Rattle.process_semantics.specs.Steps.{or_ends, inner}
use Rattle.process_semantics.specs.declared.point.Point.TheVariants as point
use Rattle.process_semantics.proofs.Points.{AtCall, at_ask}
use Rattle.whole_states.specs.Whole.{AreFrames, called_above, sizes_of, widths_of, IsWhole}
use Rattle.whole_states.proofs.Awake.{IsAwake, whole-awake, waits-at, done-awake, before-awake, word-awake, word-rest}
use Rattle.whole_states.proofs.Awake.{ends-awake}
use Rattle.whole_states.proofs.Frames.{LeadsTo, entered-frame, next-regular}

-- a state, where there is one, is whole and awaits nothing
abbrev IfAwake : Program → Option ProgramState → Type 0
IfAwake program None = Unit {0}
IfAwake program (Some next) = IsAwake program next

ends-or : (program : Program) (s : ProgramState) (next : Option ProgramState) → sizes_of s.globals ≡ widths_of program
    → IfAwake program next
    → IsAwake program (or_ends s next)
ends-or program s None same is = ends-awake program s same
ends-or program s (Some next) same is = is

assigned-awake : {program : Program} {s : ProgramState} (to : Option Cell) (value : Option ℤ) → IsAwake program s
    → IfAwake program (state_after_assigning s to value)
assigned-awake to None is = tt
assigned-awake None (Some word) is = tt
assigned-awake (Some to) (Some word) is = done-awake (word-awake to word is)

tested-awake : {program : Program} {s : ProgramState} (first second : List Entry) (holds : Option Bool)
    → IsAwake program s
    → LeadsTo (rest_of s.frames) first → LeadsTo (rest_of s.frames) second
    → IfAwake program (tested s first second holds)
tested-awake first second None is one other = tt
tested-awake first second (Some true) is one other = before-awake first is one
tested-awake first second (Some false) is one other = before-awake second is other

begun-awake : {program : Program} {s : ProgramState} (statement : Statement) (variable : Variable) (value : Option ℤ)
    → IsAwake program s
    → LeadsTo (rest_of s.frames) (Test statement ∷ []) → IfAwake program (for_begun s statement variable value)
begun-awake statement variable None is leads = tt
begun-awake {s = s} statement variable (Some word) is leads =
    before-awake (Test statement ∷ []) (word-awake (variable_cell variable) word is)
    (subst (λ (rest : List Entry). LeadsTo rest (Test statement ∷ []))
    (sym (word-rest (variable_cell variable) word s)) leads)

counted-awake : {program : Program} {s : ProgramState} (to : Cell) (down : Bool) (step : ℤ) (value : Option ℤ)
    → IsAwake program s
    → IfAwake program (state_after_count s to down step value)
counted-awake to down step None is = tt
counted-awake to down step (Some word) is = done-awake (word-awake to _ is)

-- Calls

put-length : (word : ℤ) (later : Option (List ℤ)) (n : ℕ) → ((words : List ℤ) → later ≡ Some words → length words ≡ n)
    → (words : List ℤ) → option_map (λ words. word ∷ words) later ≡ Some words → length words ≡ suc n
put-length word None n more words is = absurd (cc)
put-length word (Some later) n more words is =
    let same : word ∷ later ≡ words = cc in ap length (sym same) ∙ ap suc (more later refl)

values-length : (memory : Memory) (es : List Expr) (words : List ℤ) → values_of memory es ≡ Some words
    → length words ≡ length es
values-length memory [] words is = let none : [] ≡ words = cc in ap length (sym none)
values-length memory (e ∷ es) words is = by (value_of memory e) is (λ more there. values-length memory es more there)
  where
    by : (value : Option ℤ) → option_and_then (λ word. option_map (λ words. word ∷ words) (values_of memory es)) value
        ≡ Some words
        → ((more : List ℤ) → values_of memory es ≡ Some more → length more ≡ length es) → length words ≡ length (e ∷ es)
    by None found later = absurd (cc)
    by (Some word) found later = put-length word (values_of memory es) (length es) later words found

entered-awake : {program : Program} {s : ProgramState} {locals : ℕ} {wants : Bool} (number : ℕ) (es : List Expr)
    (values : Option (List ℤ))
    → values_of (memory_of program s) es ≡ values
    → IsCalled program locals wants number es → called_above program s.frames ≡ Some number → s.ended ≡ false
    → IsAwake program s
    → IfAwake program (state_after_entry program s number values)
entered-awake number es None values called above runs is = tt
entered-awake {program} {s} number es (Some arguments) values called above runs is =
    subst (λ (found : Option Procedure). IfAwake program (entered_by s number arguments found)) (sym called.there)
    (record {
      frames = (
        entered-frame number arguments called.procedure called.there
            (subst (λ (n : ℕ). n ≤ length called.procedure.locals)
            (sym (values-length (memory_of program s) es arguments values)) called.few),
        (above, is.frames),
      );
      globals = is.globals;
      ended = runs;
      free = is.free;
    })

given-in-awake : {program : Program} {s : ProgramState} (word : ℤ) (layer : What-F What Statement) → IsAwake program s
    → IfAwake program (given_in program word s layer)
given-in-awake word (What-F.AssignCall to procedure arguments) is = assigned-awake _ (Some word) is
given-in-awake word _ is = done-awake is

given-awake : {program : Program} {s : ProgramState} (word : ℤ) (entry : Option Entry) → IsAwake program s
    → IfAwake program (given program word s entry)
given-awake word None is = done-awake is
given-awake word (Some (Run statement)) is = given-in-awake word (out-What statement.what) is
given-awake word (Some (Test statement)) is = done-awake is
given-awake word (Some (Last statement)) is = done-awake is

-- Each entry

module _ (program : Program) (regular : IsRegular program) (s : ProgramState) (frame : Frame)
    (callers : List Frame) where
  abbrev at : List Entry → ProgramState
  at rest = record s { frames = record frame { rest = rest } ∷ callers }

  -- the state below the procedure that runs: there is a caller, or the process ends
  below-awake : (word : ℤ) (callers : List Frame) → AreFrames program callers → sizes_of s.globals ≡ widths_of program
      → s.ended ≡ false → s.awaits ≡ false
      → IfAwake program (given_to program word (record s { frames = callers }) callers)
  below-awake word [] are same runs free = ends-awake program (record s { frames = [] }) same
  below-awake word (caller ∷ others) are same runs free =
      given-awake {program = program} {s = record s { frames = caller ∷ others }} word (first_of caller.rest)
      (record { frames = are; globals = same; ended = runs; free = free })

  returned-awake : (rest : List Entry) (value : Option ℤ) → IsAwake program (at rest)
      → IfAwake program (state_after_return program (at rest) value)
  returned-awake rest None is = tt
  returned-awake rest (Some word) is = below-awake word callers is.frames.1.1 is.globals is.ended is.free

  module _ (statement : Statement) (tail : List Entry) where
    -- a way into the statement is one to which its entry leads
    into : (layer : What-F What Statement) (way : List Entry) → out-What statement.what ≡ layer
        → IsAmong way (tail ∷ ways_into statement tail layer)
        → IsAmong way (leads_to (Run statement) tail)
    into layer way is among =
        subst (λ (l : What-F What Statement). IsAmong way (tail ∷ ways_into statement tail l)) (sym is) among

    run-awake : (layer : What-F What Statement) (procedure : Procedure) → out-What statement.what ≡ layer
        → IsRegularStatement program (length procedure.locals) procedure.gives layer
        → IsAwake program (at (Run statement ∷ tail))
        → IfAwake program (inner_in program (at (Run statement ∷ tail)) statement layer)
    run-awake (What-F.Assign to value) procedure same there is = assigned-awake _ _ is
    run-awake (What-F.AssignCall to number arguments) procedure same there is =
        entered-awake number arguments _ refl there.1 (ap called_in same) is.ended is
    run-awake (What-F.If test first second) procedure same there is =
        tested-awake (runs_of first) (runs_of second) _ is
        (into (What-F.If test first second) (runs_of first ++ tail) same (inr (inl refl)))
        (into (What-F.If test first second) (runs_of second ++ tail) same (inr (inr (inl refl))))
    run-awake (What-F.While test body) procedure same there is =
        tested-awake (runs_of body ++ Run statement ∷ []) [] _ is
        (into (What-F.While test body) ((runs_of body ++ Run statement ∷ []) ++ tail) same
        (inr (inl (append_assoc (runs_of body) (Run statement ∷ []) tail))))
        (into (What-F.While test body) tail same (inl refl))
    run-awake (What-F.For variable from to down step body last) procedure same there is =
        begun-awake statement variable _ is
        (into (What-F.For variable from to down step body last) (Test statement ∷ tail) same (inr (inl refl)))
    run-awake (What-F.DoUntil body test) procedure same there is =
        tested-awake [] (runs_of body ++ Run statement ∷ []) _ is
        (into (What-F.DoUntil body test) tail same (inl refl))
        (into (What-F.DoUntil body test) ((runs_of body ++ Run statement ∷ []) ++ tail) same
        (inr (inl (append_assoc (runs_of body) (Run statement ∷ []) tail))))
    run-awake (What-F.Call number arguments) procedure same there is =
        entered-awake number arguments _ refl there (ap called_in same) is.ended is
    run-awake (What-F.Return value) procedure same there is = returned-awake (Run statement ∷ tail) _ is
    run-awake What-F.CheckMonitor procedure same there is = done-awake is
    run-awake (What-F.Open file) procedure same there is = done-awake is
    run-awake What-F.Stop procedure same there is = ends-awake program (at (Run statement ∷ tail)) is.globals
    run-awake (What-F.ReadUpdate buffer most got) procedure same there is = tt
    run-awake (What-F.Reply buffer count) procedure same there is = tt
    run-awake (What-F.WriteRead file buffer send room got) procedure same there is = tt
    run-awake (What-F.Checkpoint items files) procedure same there is = tt

    test-awake : (layer : What-F What Statement) → out-What statement.what ≡ layer
        → IsAwake program (at (Test statement ∷ tail))
        → IfAwake program (tested_in program (at (Test statement ∷ tail)) statement layer)
    test-awake (What-F.For variable from to down step body last) same is =
        tested-awake (runs_of body ++ Last statement ∷ Test statement ∷ []) [] _ is
        (subst (λ (l : What-F What Statement). IsAmong ((runs_of body ++ Last statement ∷ Test statement ∷ []) ++ tail)
        (tail ∷ ways_round statement tail l)) (sym same)
        (inr (inl (append_assoc (runs_of body) (Last statement ∷ Test statement ∷ []) tail)))) (inl refl)
    test-awake _ same is = tt

    last-awake : (layer : What-F What Statement) → IsAwake program (at (Last statement ∷ tail))
        → IfAwake program (state_after_count_in program (at (Last statement ∷ tail)) layer)
    last-awake (What-F.For variable from to down step body last) is =
        counted-awake (variable_cell variable) down step _ is
    last-awake _ is = tt

  entry-awake : (rest : List Entry) → IsAwake program (at rest)
      → IfAwake program (inner_entry program (at rest) (first_of rest))
  entry-awake [] is = returned-awake [] (Some (pos 0)) is
  entry-awake (Run statement ∷ tail) is =
      let there = next-regular statement tail regular is.frames.0 refl in
      run-awake statement tail (out-What statement.what) there.procedure refl there.regular is
  entry-awake (Test statement ∷ tail) is = test-awake statement tail (out-What statement.what) refl is
  entry-awake (Last statement ∷ tail) is = last-awake statement tail (out-What statement.what) is

awake-inner : (program : Program) (s : ProgramState) → IsRegular program → IsAwake program s
    → IsAwake program (inner program s)
awake-inner program s regular is = by s.frames is
  where
    by : (frames : List Frame) → IsAwake program (record s { frames = frames })
        → IsAwake program (inner program (record s { frames = frames }))
    by [] is = ends-awake program (record s { frames = [] }) is.globals
    by (frame ∷ callers) is = ends-or program (record s { frames = frame ∷ callers }) _ is.globals
        (entry-awake program regular s frame callers frame.rest is)

-- a WRITEREAD has no step at Inner, so one that awaits would end
waits-inner : (program : Program) (s : ProgramState) → IsWhole program s → s.awaits ≡ true
    → inner_entry program s (next_of s.frames) ≡ None
waits-inner program s is waits = let stands = (waits-at program s is waits).stands in
    ap (inner_entry program s) stands.next ∙ by stands.statement (out-What stands.statement.what) stands.call
  where
    by : (statement : Statement) (layer : What-F What Statement)
        → AtCall program (record s { awaits = false }) layer point.Ask
        → inner_in program s statement layer ≡ None
    by statement _ (at_ask file buffer send room got free good) = refl

pub inner-awake : (program : Program) (s : ProgramState) → IsRegular program → IsWhole program s
    → IsAwake program (inner program s)
inner-awake program s regular is = by s.awaits refl
  where
    by : (b : Bool) → s.awaits ≡ b → IsAwake program (inner program s)
    by false free = awake-inner program s regular (whole-awake is free)
    by true waits =
        subst (λ (next : Option ProgramState). IsAwake program (or_ends s next)) (sym (waits-inner program s is waits))
        (ends-awake program s is.globals)
