-- What each kind of step does to the place, and to the words of globals.
use Rattle.std.proofs.Common.{◌≡◌, ◌≤◌, ℕ, ◌==◌, ℤ, pos, Bool, true, false, List, [], ◌∷◌, ◌++◌, drop, take, length}
use Rattle.std.proofs.Common.{min, is_some, Option, Some, None, slice_get, refl, ap, subst, sym, ◌∙◌}
use Rattle.std.proofs.lemmas.Bool.{or_parts}
use Rattle.tal_tree.specs.declared.program.Program.{Program}
use Rattle.tal_tree.specs.declared.program.Procedure.{Procedure}
use Rattle.tal_tree.specs.declared.expression.Variable.{Variable}
use Rattle.tal_tree.specs.declared.statement.Statement.{Statement}
use Rattle.tal_tree.specs.declared.statement.What.{What, What-F, out-What}
use Rattle.process_semantics.specs.tal_values.specs.declared.memory.Cell.{Cell}
use Rattle.process_semantics.specs.tal_values.specs.declared.memory.Cell.TheVariants as cell
use Rattle.process_semantics.specs.tal_values.specs.Value.{cell_of}
use Rattle.process_semantics.specs.State.{Entry, Run, Test, Last, Frame, ProgramState, runs_of, first_of, words_of}
use Rattle.process_semantics.specs.State.{memory_of}
use Rattle.process_semantics.specs.Changes.{local_set, with_word, with_words, without_next, put_before, done, before}
use Rattle.process_semantics.specs.Changes.{entering, left, ends, variable_cell}
use Rattle.process_semantics.specs.Steps.{state_after_assigning, tested, entered_by, state_after_entry, given_in, given}
use Rattle.process_semantics.specs.Steps.{given_to, state_after_return}
use Rattle.process_semantics.specs.Steps.{for_begun, state_after_count, inner_entry, or_ends}
use Rattle.process_semantics.specs.Calls.{received}
use Rattle.path_semantics.specs.declared.dues.Dues.{Dues}
use Rattle.path_semantics.specs.Dues.{with_changed, global_of, changed_by_return, target_of}
use Rattle.path_semantics.specs.Place.{Place, Stand, place_of, body_in, body_of, settled, stand_at}
use Rattle.gd_words.specs.Members.{is_among}
use Rattle.path_semantics.specs.Break.{asked_count}
use Rattle.path_steps.proofs.Growing.{HasGrown, grown-changed, grown-same, words-other, cell_global, word-stays}
use Rattle.path_steps.proofs.Growing.{variable-global, spot-global}

-- Places

abbrev pub without_first : Place → Place
without_first [] = []
without_first (frame ∷ callers) = drop 1 frame ∷ callers

abbrev with_first : List Entry → Place → Place
with_first entries [] = []
with_first entries (frame ∷ callers) = (entries ++ frame) ∷ callers

pub place-done : (frames : List Frame) → place_of (without_next frames) ≡ without_first (place_of frames)
place-done [] = refl
place-done (frame ∷ callers) = refl

place-before : (entries : List Entry) (frames : List Frame)
    → place_of (put_before entries frames) ≡ with_first entries (place_of frames)
place-before entries [] = refl
place-before entries (frame ∷ callers) = refl

place-local : (local : ℕ) (word : ℤ) (frames : List Frame) → place_of (local_set local word frames) ≡ place_of frames
place-local local word [] = refl
place-local local word (frame ∷ callers) = refl

pub place-word : (to : Cell) (word : ℤ) (s : ProgramState) → place_of (with_word to word s).frames ≡ place_of s.frames
place-word (cell.Local local) word s = place-local local word s.frames
place-word (cell.Global item offset) word s = refl

place-left : (frames : List Frame) → place_of (drop 1 frames) ≡ drop 1 (place_of frames)
place-left [] = refl
place-left (frame ∷ callers) = refl

pub never : (s : ProgramState) → (ends s).ended ≡ false → ⊥
never s is = cc

-- a step to a stand of which this holds, with this due afterwards
pub record GoesBy (P : Stand → Type 0) (dues later : Dues) (s after : ProgramState) : Type 0 where
  pub stands : P (settled later (place_of after.frames))
  pub due : (item : ℕ) → is_among item later.globals ≡ false → is_among item dues.globals ≡ false
  pub words : (item : ℕ) → is_among item later.globals ≡ false → words_of after.globals item ≡ words_of s.globals item
  pub asked : (file : ℕ) → asked_count file dues ≤ asked_count file later
  pub read : dues.read ≡ true → later.read ≡ true

-- such a step, unless the program ends
abbrev pub GoesTo : (Stand → Type 0) → Dues → ProgramState → ProgramState → Type 0
GoesTo P dues s after = after.ended ≡ false → (later : Dues) × GoesBy P dues later s after

-- Steps, where the state is at a place, and the dues after the step are these

module _ (P : Stand → Type 0) (program : Program) (dues : Dues) (s : ProgramState) where
  -- where a step is done, if it doesn't trap
  abbrev Done : Option ProgramState → Type 0
  Done next = GoesTo P dues s (or_ends s next)

  moved-by : (after : ProgramState) (later : Dues) (place : Place) (changed : List ℕ) → place_of after.frames ≡ place
      → P (settled later place) → HasGrown dues later changed
      → ((item : ℕ) → is_among item changed ≡ false → words_of after.globals item ≡ words_of s.globals item)
      → GoesBy P dues later s after
  moved-by after later place changed is holds grown words = record {
    stands = subst (λ (p : Place). P (settled later p)) (sym is) holds;
    due = grown.due;
    words = λ item e. words item (grown.new item e);
    asked = grown.asked;
    read = grown.read;
  }

  moved : (after : ProgramState) (later : Dues) (place : Place) (changed : List ℕ) → place_of after.frames ≡ place
      → P (settled later place) → HasGrown dues later changed
      → ((item : ℕ) → is_among item changed ≡ false → words_of after.globals item ≡ words_of s.globals item)
      → GoesTo P dues s after
  moved after later place changed is holds grown words =
      λ alive. (later, moved-by after later place changed is holds grown words)

  pub assigned-goes : (to : Option Cell) (value : Option ℤ) (here : Place) → place_of s.frames ≡ here
      → (later : Dues) (changed : List ℕ) → HasGrown dues later changed
      → ((at : Cell) → to ≡ Some at → cell_global at ≡ changed) → P (settled later (without_first here))
      → Done (state_after_assigning s to value)
  assigned-goes None None here place later changed grown cells holds = λ alive. absurd (never s alive)
  assigned-goes (Some to) None here place later changed grown cells holds = λ alive. absurd (never s alive)
  assigned-goes None (Some word) here place later changed grown cells holds = λ alive. absurd (never s alive)
  assigned-goes (Some to) (Some word) here place later changed grown cells holds =
      moved (done (with_word to word s)) later (without_first here) changed
      (place-done (with_word to word s).frames ∙ ap without_first (place-word to word s ∙ place)) holds
      grown (λ item e. word-stays to word s item
      (subst (λ (ns : List ℕ). is_among item ns ≡ false) (sym (cells to refl)) e))

  pub tested-goes : (first second : List Entry) (holds : Option Bool) (entry : Entry) (rest : List Entry)
      (callers : Place) → place_of s.frames ≡ (entry ∷ rest) ∷ callers
      → (later : Dues) (changed : List ℕ) → HasGrown dues later changed → P (settled later ((first ++ rest) ∷ callers))
      → P (settled later ((second ++ rest) ∷ callers))
      → Done (tested s first second holds)
  tested-goes first second None entry rest callers place later changed grown one other = λ alive. absurd (never s alive)
  tested-goes first second (Some true) entry rest callers place later changed grown one other =
      moved (before first (done s)) later ((first ++ rest) ∷ callers) changed
      (place-before first (done s).frames ∙ ap (with_first first) (place-done s.frames ∙ ap without_first place))
      one
      grown (λ item e. refl)
  tested-goes first second (Some false) entry rest callers place later changed grown one other =
      moved (before second (done s)) later ((second ++ rest) ∷ callers) changed
      (place-before second (done s).frames ∙ ap (with_first second) (place-done s.frames ∙ ap without_first place))
      other
      grown (λ item e. refl)

  entered_by-goes : (number : ℕ) (arguments : List ℤ) (procedure : Option Procedure)
      → slice_get program.procedures number ≡ procedure → (here : Place) → place_of s.frames ≡ here
      → (later : Dues) (changed : List ℕ) → HasGrown dues later changed
      → P (settled later (body_of program number ∷ here)) → Done (entered_by s number arguments procedure)
  entered_by-goes number arguments None is here place later changed grown holds = λ alive. absurd (never s alive)
  entered_by-goes number arguments (Some procedure) is here place later changed grown holds =
      moved (entering number arguments procedure s) later (body_of program number ∷ here) changed
      (ap (λ (p : Place). runs_of procedure.body ∷ p) place ∙ ap (λ (q : Option Procedure). body_in q ∷ here) (sym is))
      holds grown (λ item e. refl)

  pub entered-goes : (number : ℕ) (arguments : Option (List ℤ)) (here : Place) → place_of s.frames ≡ here
      → (later : Dues) (changed : List ℕ) → HasGrown dues later changed
      → P (settled later (body_of program number ∷ here)) → Done (state_after_entry program s number arguments)
  entered-goes number None here place later changed grown holds = λ alive. absurd (never s alive)
  entered-goes number (Some arguments) here place later changed grown holds =
      entered_by-goes number arguments (slice_get program.procedures number) refl here place later changed grown holds

  pub begun-goes : (statement : Statement) (variable : Variable) (value : Option ℤ) (entry : Entry) (rest : List Entry)
      (callers : Place)
      → place_of s.frames ≡ (entry ∷ rest) ∷ callers → (later : Dues) → HasGrown dues later (global_of variable)
      → P (settled later ((Test statement ∷ rest) ∷ callers))
      → Done (for_begun s statement variable value)
  begun-goes statement variable None entry rest callers place later grown holds = λ alive. absurd (never s alive)
  begun-goes statement variable (Some word) entry rest callers place later grown holds =
      moved (before (Test statement ∷ []) (done (with_word (variable_cell variable) word s))) later
      ((Test statement ∷ rest) ∷ callers) (global_of variable)
      (place-before (Test statement ∷ []) (done (with_word (variable_cell variable) word s)).frames
      ∙ ap (with_first (Test statement ∷ []))
      (place-done (with_word (variable_cell variable) word s).frames
      ∙ ap without_first (place-word (variable_cell variable) word s ∙ place))) holds
      grown (λ item e. word-stays (variable_cell variable) word s item
      (subst (λ (ns : List ℕ). is_among item ns ≡ false) (sym (variable-global variable)) e))

  pub counted-goes : (variable : Variable) (down : Bool) (step : ℤ) (value : Option ℤ) (entry : Entry)
      (rest : List Entry) (callers : Place)
      → place_of s.frames ≡ (entry ∷ rest) ∷ callers → (later : Dues)
      → HasGrown dues later (global_of variable) → P (settled later (rest ∷ callers))
      → Done (state_after_count s (variable_cell variable) down step value)
  counted-goes variable down step None entry rest callers place later grown holds = λ alive. absurd (never s alive)
  counted-goes variable down step (Some word) entry rest callers place later grown holds =
      moved (done (with_word (variable_cell variable) _ s)) later (rest ∷ callers) (global_of variable)
      (place-done (with_word (variable_cell variable) _ s).frames
      ∙ ap without_first (place-word (variable_cell variable) _ s ∙ place)) holds
      grown (λ item e. word-stays (variable_cell variable) _ s item
      (subst (λ (ns : List ℕ). is_among item ns ≡ false) (sym (variable-global variable)) e))

  pub passed-goes : (entry : Entry) (rest : List Entry) (callers : Place)
      → place_of s.frames ≡ (entry ∷ rest) ∷ callers → (later : Dues) (changed : List ℕ)
      → HasGrown dues later changed → P (settled later (rest ∷ callers)) → Done (Some (done s))
  passed-goes entry rest callers place later changed grown holds =
      moved (done s) later (rest ∷ callers) changed (place-done s.frames ∙ ap without_first place) holds grown
      (λ item e. refl)

  -- words that come
  pub received-goes : (buffer : ℕ) (got : Variable) (words : List ℤ) (room : Option ℕ) → is_some room ≡ true
      → (entry : Entry) (rest : List Entry) (callers : Place)
      → place_of s.frames ≡ (entry ∷ rest) ∷ callers → (later : Dues) → HasGrown dues later (buffer ∷ global_of got)
      → P (settled later (rest ∷ callers))
      → GoesBy P dues later s (received s buffer got words room)
  received-goes buffer got words None there entry rest callers place later grown holds = absurd (cc)
  received-goes buffer got words (Some room) there entry rest callers place later grown holds =
      let filled : ProgramState = with_words buffer (take room words) s in
      let word : ℤ = pos (min room (length words)) in
      moved-by (done (with_word (variable_cell got) word filled)) later (rest ∷ callers) (buffer ∷ global_of got)
      (place-done (with_word (variable_cell got) word filled).frames
      ∙ ap without_first (place-word (variable_cell got) word filled ∙ place)) holds
      grown (λ item e. let t = or_parts (buffer == item) (is_among item (global_of got)) e in
      word-stays (variable_cell got) word filled item
      (subst (λ (ns : List ℕ). is_among item ns ≡ false) (sym (variable-global got)) t.1)
      ∙ words-other s.globals buffer item _ t.0)

  pub done-goes : (entry : Entry) (rest : List Entry) (callers : Place) → place_of s.frames ≡ (entry ∷ rest) ∷ callers
      → (later : Dues) (changed : List ℕ)
      → HasGrown dues later changed → P (settled later (rest ∷ callers)) → GoesBy P dues later s (done s)
  done-goes entry rest callers place later changed grown holds =
      moved-by (done s) later (rest ∷ callers) changed (place-done s.frames ∙ ap without_first place) holds grown
      (λ item e. refl)

  -- a caller that has its word back
  given-goes : (word : ℤ) (rest : List Entry) (callers : Place) → place_of s.frames ≡ rest ∷ callers
      → (d : Dues) (changed : List ℕ) → HasGrown dues d changed
      → P (stand_at [] (rest ∷ callers) d) → Done (given program word s (first_of rest))
  given-goes word rest callers at d changed grown holds = by_first (first_of rest) refl
    where
      returned : List ℕ
      returned = changed_by_return (first_of rest)

      later : Dues
      later = with_changed returned d

      grows : HasGrown dues later returned
      grows = grown-changed dues d changed returned grown

      plain : GoesTo P dues s (done s)
      plain = moved (done s) later (drop 1 rest ∷ callers) returned (place-done s.frames ∙ ap without_first at) holds
          grows (λ item e. refl)

      by_layer : (statement : Statement) (layer : What-F What Statement) → first_of rest ≡ Some (Run statement)
          → out-What statement.what ≡ layer → Done (given_in program word s layer)
      by_layer statement (What-F.AssignCall to procedure arguments) first is =
          assigned-goes (cell_of (memory_of program s) to) (Some word) (rest ∷ callers) at later returned grows
          (λ c e. spot-global (memory_of program s) to c e ∙ sym (ap changed_by_return first ∙ ap target_of is)) holds
      by_layer statement _ first is = plain

      by_first : (first : Option Entry) → first_of rest ≡ first → Done (given program word s first)
      by_first None is = plain
      by_first (Some (Run statement)) is = by_layer statement (out-What statement.what) is refl
      by_first (Some (Test statement)) is = plain
      by_first (Some (Last statement)) is = plain

-- a procedure that gives a word
module _ (P : Stand → Type 0) (program : Program) (dues : Dues) (s : ProgramState) where
  from-left : (after : ProgramState) → GoesTo P dues (left s) after → GoesTo P dues s after
  from-left after goes alive = let t = goes alive in
      (t.0, record { stands = t.1.stands; due = t.1.due; words = t.1.words; asked = t.1.asked; read = t.1.read })

  pub returned-goes : (value : Option ℤ) (frame : List Entry) (callers : Place) → place_of s.frames ≡ frame ∷ callers
      → (d : Dues) (changed : List ℕ) → HasGrown dues d changed
      → P (stand_at [] callers d) → GoesTo P dues s (or_ends s (state_after_return program s value))
  returned-goes None frame callers at d changed grown holds = λ alive. absurd (never s alive)
  returned-goes (Some word) frame callers at d changed grown holds = by_below (drop 1 s.frames) refl
    where
      by_below : (below : List Frame) → drop 1 s.frames ≡ below
          → GoesTo P dues s (or_ends s (given_to program word (left s) below))
      by_below [] is = λ alive. absurd (never (left s) alive)
      by_below (caller ∷ below) is =
          let same : callers ≡ caller.rest ∷ place_of below =
          ap (λ (p : Place). drop 1 p) (sym at) ∙ sym (place-left s.frames) ∙ ap place_of is in
          from-left (or_ends s (given program word (left s) (first_of caller.rest)))
          (given-goes P program dues (left s) word caller.rest (place_of below) (ap place_of is) d changed grown
          (subst (λ (p : Place). P (stand_at [] p d)) same holds))

-- the step of a procedure's end comes where the path stood already
pub end-goes : (program : Program) (dues : Dues) (s : ProgramState) (callers : Place) → place_of s.frames ≡ [] ∷ callers
    → GoesTo (λ stand. stand ≡ settled dues ([] ∷ callers)) dues s (or_ends s (inner_entry program s None))
end-goes program dues s callers at = returned-goes (λ stand. stand ≡ settled dues ([] ∷ callers)) program dues s
    (Some (pos 0)) [] callers at dues [] (grown-same dues) refl
