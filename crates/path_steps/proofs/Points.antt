-- The steps of a program at each point but Inner and Ended lead along a path.
use Rattle.std.proofs.Common.{◌≡◌, inl, ◌<◌, ℕ, ◌+◌, ◌==◌, ℤ, Bool, true, false, ◌||◌, List, [], ◌∷◌, count_by, refl}
use Rattle.std.proofs.Common.{ap, subst, sym, ◌∙◌, arith, eq-eqb}
use Rattle.std.specs.Prelude.{cond}
use Rattle.tal_tree.specs.declared.program.Program.{Program}
use Rattle.tal_tree.specs.declared.expression.Expr.{Expr}
use Rattle.tal_tree.specs.declared.expression.Variable.{Variable}
use Rattle.tal_tree.specs.declared.statement.Statement.{Statement}
use Rattle.tal_tree.specs.declared.statement.What.{What, What-F, out-What}
use Rattle.process_semantics.specs.declared.point.Point.{Point}
use Rattle.process_semantics.specs.declared.point.Point.TheVariants as point
use Rattle.process_semantics.specs.State.{Entry, Run, ProgramState, count_of}
use Rattle.process_semantics.specs.Changes.{with_hand, with_waiting}
use Rattle.process_semantics.proofs.Points.{AtCall, at_read, at_await, at_reply, at_checkpoint, StandsAt}
use Rattle.process_semantics.specs.Calls.{took_in, got_in, file_in, after_answered, after_checkpoint}
use Rattle.path_semantics.specs.declared.dues.Dues.{Dues}
use Rattle.path_semantics.specs.Dues.{no_dues, after_entry, after_statement}
use Rattle.path_semantics.specs.Place.{Place, Stand, place_of, settled}
use Rattle.path_semantics.specs.Break.{asked_count}
use Rattle.path_steps.specs.Step.{has_room_in}
use Rattle.path_steps.proofs.Growing.{count-append}
use Rattle.path_steps.proofs.Moving.{GoesBy, without_first, place-done, received-goes, done-goes}
use Rattle.path_steps.proofs.Going.{Led, via, run-grown}

-- the place of a program that stands at a statement
pub place-at : {code : Program} {s : ProgramState} {p : Point} (stands : StandsAt code s p)
    → place_of s.frames ≡ (Run stands.statement ∷ stands.rest) ∷ place_of stands.callers
place-at stands = ap place_of stands.frames ∙ ap (λ (rest : List Entry). rest ∷ place_of stands.callers) stands.first

-- a step is the same whatever is in hand, and whether a reply is awaited
hand-goes : {P : Stand → Type 0} {dues later : Dues} {s after : ProgramState} (held : Bool)
    → GoesBy P dues later s after → GoesBy P dues later s (with_hand held after)
hand-goes held goes =
    record { stands = goes.stands; due = goes.due; words = goes.words; asked = goes.asked; read = goes.read }

waiting-goes : {P : Stand → Type 0} {dues later : Dues} {s after : ProgramState} (awaits : Bool)
    → GoesBy P dues later s after → GoesBy P dues later s (with_waiting awaits after)
waiting-goes awaits goes =
    record { stands = goes.stands; due = goes.due; words = goes.words; asked = goes.asked; read = goes.read }

or-later : (b : Bool) → (b || true) ≡ true
or-later true = refl
or-later false = refl

module _ (code : Program) (dues : Dues) (s : ProgramState) (statement : Statement) (rest : List Entry)
    (callers : Place) where
  abbrev pub There : Stand → Type 0
  There stand = Led code dues s statement rest callers (Run statement) stand

  abbrev pub after : Dues
  after = after_entry dues (Run statement)

  pub took-in : (words : List ℤ) → place_of s.frames ≡ (Run statement ∷ rest) ∷ callers
      → (what : What-F What Statement) → out-What statement.what ≡ what → AtCall code s what point.Take
      → GoesBy There dues after s (took_in code s words what) × (after.read ≡ true)
  took-in words place what is (at_read buffer most got free good) =
      let goes = received-goes There code dues s buffer got words (count_of code s buffer most) good (Run statement)
      rest callers place after
      (run-grown code dues s statement rest callers (What-F.ReadUpdate buffer most got) is (λ c. c))
      (via code dues s statement rest callers (What-F.ReadUpdate buffer most got) is _ (inl refl)) in (
        hand-goes true goes,
        subst (λ (w : What-F What Statement). (after_statement dues w).read ≡ true) (sym is)
            (or-later dues.read),
      )

  -- more WRITEREADs are due on this file
  abbrev pub MoreAsked : ℕ → Type 0
  MoreAsked file = asked_count file dues < asked_count file after

  more-asked : (file buffer : ℕ) (send room : Expr) (got : Variable)
      → out-What statement.what ≡ What-F.WriteRead file buffer send room got → MoreAsked file
  more-asked file buffer send room got is =
      subst (λ (w : What-F What Statement). asked_count file dues < asked_count file (after_statement dues w)) (sym is)
      (let c = count-append (λ one. one == file) dues.asked (file ∷ []) in
      let d : count_by (λ one. one == file) (file ∷ []) ≡ 1 =
      ap (λ (b : Bool). 0 + cond b 1 0) (eq-eqb file file refl) in
      omega (arith, c, d))

  pub got-in : (words : List ℤ) → place_of s.frames ≡ (Run statement ∷ rest) ∷ callers → (what : What-F What Statement)
      → out-What statement.what ≡ what → AtCall code s what point.Await
      → has_room_in code s what ≡ true → GoesBy There dues after s (got_in code s words what) × MoreAsked (file_in what)
  got-in words place what is (at_await file buffer send room got awaits) good =
      let goes = received-goes There code dues s buffer got words (count_of code s buffer room) good (Run statement)
      rest callers place after
      (run-grown code dues s statement rest callers (What-F.WriteRead file buffer send room got) is (λ c. c))
      (via code dues s statement rest callers (What-F.WriteRead file buffer send room got) is _ (inl refl)) in
      (waiting-goes false goes, more-asked file buffer send room got is)

  pub answered-in : place_of s.frames ≡ (Run statement ∷ rest) ∷ callers → (what : What-F What Statement)
      → out-What statement.what ≡ what → AtCall code s what point.Answer
      → GoesBy There dues after s (after_answered s)
  answered-in place what is (at_reply buffer count held) =
      let goes = done-goes There code dues s (Run statement) rest callers place after []
      (run-grown code dues s statement rest callers (What-F.Reply buffer count) is (λ c. c))
      (via code dues s statement rest callers (What-F.Reply buffer count) is _ (inl refl)) in
      hand-goes false goes

  pub checkpointed-in : place_of s.frames ≡ (Run statement ∷ rest) ∷ callers → (what : What-F What Statement)
      → out-What statement.what ≡ what → AtCall code s what point.AtCheckpoint
      → There (settled no_dues (place_of (after_checkpoint s).frames))
  checkpointed-in place what is (at_checkpoint items files) =
      let led : There (settled after (rest ∷ callers)) =
      via code dues s statement rest callers (What-F.Checkpoint items files) is _ (inl refl) in
      let none : after ≡ no_dues = ap (after_statement dues) is in
      let gone : place_of (after_checkpoint s).frames ≡ rest ∷ callers = place-done s.frames ∙ ap without_first place in
      subst (λ (p : Place). There (settled no_dues p)) (sym gone)
      (subst (λ (d : Dues). There (settled d (rest ∷ callers))) none led)
