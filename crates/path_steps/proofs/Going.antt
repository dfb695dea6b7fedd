-- The step of an entry goes along a path, and changes only what is due then.
use Rattle.std.proofs.Common.{◌≡◌, inl, inr, List, [], ◌∷◌, ◌++◌, map, Some, refl, ap, subst, sym}
use Rattle.std.proofs.lemmas.List.{append_assoc}
use Rattle.tal_tree.specs.declared.program.Program.{Program}
use Rattle.tal_tree.specs.declared.statement.Statement.{Statement}
use Rattle.tal_tree.specs.declared.statement.What.{What, What-F, out-What}
use Rattle.process_semantics.specs.tal_values.specs.Value.{cell_of}
use Rattle.process_semantics.specs.State.{Entry, Run, Test, Last, ProgramState, runs_of, memory_of}
use Rattle.process_semantics.specs.Steps.{inner_in, tested_in, state_after_count_in, inner_entry, or_ends}
use Rattle.path_semantics.specs.declared.dues.Dues.{Dues}
use Rattle.path_semantics.specs.Dues.{with_changed, global_of, global_of_spot, changed_by, after_entry, after_statement}
use Rattle.path_semantics.specs.Place.{Place, Stand, place_of, ways_of, rounds_of, settled, stands_after}
use Rattle.gd_words.specs.Members.{IsAmong}
use Rattle.path_steps.proofs.Growing.{HasGrown, grown-changed, grown-same, IsCheckpoint, statement-grown, spot-global}
use Rattle.path_steps.proofs.Moving.{GoesTo, never, assigned-goes, tested-goes, entered-goes, begun-goes, counted-goes}
use Rattle.path_steps.proofs.Moving.{passed-goes, returned-goes}

-- the step of an entry

module _ (program : Program) (dues : Dues) (s : ProgramState) (statement : Statement) (rest : List Entry)
    (callers : Place) where
  abbrev pub here : Entry → Place
  here entry = (entry ∷ rest) ∷ callers

  abbrev pub Led : Entry → Stand → Type 0
  Led entry stand = IsAmong stand (stands_after program dues (here entry))

  abbrev pub after_run : Dues
  after_run = after_entry dues (Run statement)

  pub via : (layer : What-F What Statement) → out-What statement.what ≡ layer → (stand : Stand)
      → IsAmong stand (map (settled after_run) (ways_of program statement rest callers layer))
      → Led (Run statement) stand
  via layer is stand among = subst (λ (w : What-F What Statement). IsAmong stand
      (map (settled after_run) (ways_of program statement rest callers w))) (sym is) among

  via_test : (layer : What-F What Statement) → out-What statement.what ≡ layer → (stand : Stand)
      → IsAmong stand (map (settled dues) (rounds_of statement rest callers layer)) → Led (Test statement) stand
  via_test layer is stand among = subst (λ (w : What-F What Statement). IsAmong stand
      (map (settled dues) (rounds_of statement rest callers w))) (sym is) among

  pub run-grown : (layer : What-F What Statement) → out-What statement.what ≡ layer → (IsCheckpoint layer → ⊥)
      → HasGrown dues after_run (changed_by layer)
  run-grown layer is other = subst (λ (w : What-F What Statement). HasGrown dues (after_statement dues w)
      (changed_by layer)) (sym is) (statement-grown dues layer other)

  goes-run : place_of s.frames ≡ here (Run statement) → (layer : What-F What Statement)
      → out-What statement.what ≡ layer
      → GoesTo (Led (Run statement)) dues s (or_ends s (inner_in program s statement layer))
  goes-run at (What-F.Assign to value) is =
      assigned-goes (Led (Run statement)) program dues s (cell_of (memory_of program s) to) _ (here (Run statement)) at
      after_run (global_of_spot to)
      (run-grown (What-F.Assign to value) is (λ c. c)) (λ c e. spot-global (memory_of program s) to c e)
      (via (What-F.Assign to value) is _ (inl refl))
  goes-run at (What-F.AssignCall to procedure arguments) is =
      entered-goes (Led (Run statement)) program dues s procedure _ (here (Run statement)) at after_run []
      (run-grown (What-F.AssignCall to procedure arguments) is (λ c. c))
      (via (What-F.AssignCall to procedure arguments) is _ (inl refl))
  goes-run at (What-F.Call procedure arguments) is =
      entered-goes (Led (Run statement)) program dues s procedure _ (here (Run statement)) at after_run []
      (run-grown (What-F.Call procedure arguments) is (λ c. c)) (via (What-F.Call procedure arguments) is _ (inl refl))
  goes-run at (What-F.If test first second) is =
      tested-goes (Led (Run statement)) program dues s (runs_of first) (runs_of second) _ (Run statement) rest callers
      at after_run []
      (run-grown (What-F.If test first second) is (λ c. c)) (via (What-F.If test first second) is _ (inl refl))
      (via (What-F.If test first second) is _ (inr (inl refl)))
  goes-run at (What-F.While test body) is =
      tested-goes (Led (Run statement)) program dues s (runs_of body ++ Run statement ∷ []) [] _ (Run statement) rest
      callers at after_run []
      (run-grown (What-F.While test body) is (λ c. c))
      (via (What-F.While test body) is _ (inl
      (ap (λ (f : List Entry). settled after_run (f ∷ callers))
      (append_assoc (runs_of body) (Run statement ∷ []) rest))))
      (via (What-F.While test body) is _ (inr (inl refl)))
  goes-run at (What-F.DoUntil body test) is =
      tested-goes (Led (Run statement)) program dues s [] (runs_of body ++ Run statement ∷ []) _ (Run statement) rest
      callers at after_run []
      (run-grown (What-F.DoUntil body test) is (λ c. c))
      (via (What-F.DoUntil body test) is _ (inl refl))
      (via (What-F.DoUntil body test) is _ (inr (inl
      (ap (λ (f : List Entry). settled after_run (f ∷ callers))
      (append_assoc (runs_of body) (Run statement ∷ []) rest)))))
  goes-run at (What-F.For variable from to down step body last) is =
      begun-goes (Led (Run statement)) program dues s statement variable _ (Run statement) rest callers at after_run
      (run-grown (What-F.For variable from to down step body last) is (λ c. c))
      (via (What-F.For variable from to down step body last) is _ (inl refl))
  goes-run at (What-F.Return value) is =
      returned-goes (Led (Run statement)) program dues s _ (Run statement ∷ rest) callers at after_run []
      (run-grown (What-F.Return value) is (λ c. c)) (via (What-F.Return value) is _ (inl refl))
  goes-run at What-F.CheckMonitor is =
      passed-goes (Led (Run statement)) program dues s (Run statement) rest callers at after_run []
      (run-grown What-F.CheckMonitor is (λ c. c)) (via What-F.CheckMonitor is _ (inl refl))
  goes-run at (What-F.Open file) is =
      passed-goes (Led (Run statement)) program dues s (Run statement) rest callers at after_run []
      (run-grown (What-F.Open file) is (λ c. c)) (via (What-F.Open file) is _ (inl refl))
  goes-run at What-F.Stop is = λ alive. absurd (never s alive)
  goes-run at (What-F.ReadUpdate buffer most got) is = λ alive. absurd (never s alive)
  goes-run at (What-F.Reply buffer count) is = λ alive. absurd (never s alive)
  goes-run at (What-F.WriteRead file buffer send room got) is = λ alive. absurd (never s alive)
  goes-run at (What-F.Checkpoint items files) is = λ alive. absurd (never s alive)

  goes-test : place_of s.frames ≡ here (Test statement) → (layer : What-F What Statement)
      → out-What statement.what ≡ layer
      → GoesTo (Led (Test statement)) dues s (or_ends s (tested_in program s statement layer))
  goes-test at (What-F.For variable from to down step body last) is =
      tested-goes (Led (Test statement)) program dues s (runs_of body ++ Last statement ∷ Test statement ∷ []) [] _
      (Test statement) rest callers at dues [] (grown-same dues)
      (via_test (What-F.For variable from to down step body last) is _
      (inl (ap (λ (f : List Entry). settled dues (f ∷ callers))
      (append_assoc (runs_of body) (Last statement ∷ Test statement ∷ []) rest))))
      (via_test (What-F.For variable from to down step body last) is _ (inr (inl refl)))
  goes-test at _ is = λ alive. absurd (never s alive)

  goes-last : place_of s.frames ≡ here (Last statement) → (layer : What-F What Statement)
      → out-What statement.what ≡ layer
      → GoesTo (Led (Last statement)) dues s (or_ends s (state_after_count_in program s layer))
  goes-last at (What-F.For variable from to down step body last) is =
      counted-goes (Led (Last statement)) program dues s variable down step _ (Last statement) rest callers at
      (after_entry dues (Last statement))
      (subst (λ (w : What-F What Statement). HasGrown dues (with_changed (changed_by w) dues) (global_of variable))
      (sym is) (grown-changed dues dues [] (global_of variable) (grown-same dues)))
      (inl refl)
  goes-last at _ is = λ alive. absurd (never s alive)

-- a step at Inner of a program that doesn't end goes along a path
pub entry-goes : (program : Program) (dues : Dues) (s : ProgramState) (entry : Entry) (rest : List Entry)
    (callers : Place) → place_of s.frames ≡ (entry ∷ rest) ∷ callers
    → GoesTo (λ stand. IsAmong stand (stands_after program dues ((entry ∷ rest) ∷ callers))) dues s
    (or_ends s (inner_entry program s (Some entry)))
entry-goes program dues s (Run statement) rest callers at =
    goes-run program dues s statement rest callers at (out-What statement.what) refl
entry-goes program dues s (Test statement) rest callers at =
    goes-test program dues s statement rest callers at (out-What statement.what) refl
entry-goes program dues s (Last statement) rest callers at =
    goes-last program dues s statement rest callers at (out-What statement.what) refl
