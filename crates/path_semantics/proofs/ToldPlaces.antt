-- Places that paths lead to are told by the numbers that come next.
use Rattle.std.proofs.Common.{◌≡◌, inl, inr, ℕ, List, [], ◌∷◌, ◌++◌, drop, Option, Some, None, slice_get, refl, ap, ap₂}
use Rattle.std.proofs.Common.{sym, subst, ◌∙◌}
use Rattle.gd_words.specs.Members.{IsAmong}
use Rattle.gd_words.proofs.Among.{among-one}
use Rattle.tal_tree.specs.Statements.{called_in}
use Rattle.tal_tree.specs.declared.program.Procedure.{Procedure}
use Rattle.tal_tree.specs.declared.program.Program.{Program}
use Rattle.tal_tree.specs.declared.statement.Statement.{Statement}
use Rattle.tal_tree.specs.declared.statement.What.{What, What-F, out-What}
use Rattle.process_semantics.specs.Remains.{Remains, ways_into, ways_round, leads_to}
use Rattle.process_semantics.specs.Rests.{next_number, rest_from}
use Rattle.process_semantics.specs.State.{Entry, Run, Test, Last, runs_of}
use Rattle.process_semantics.proofs.Leading.{body-remains, leads-remains}
use Rattle.process_semantics.proofs.Told.{told}
use Rattle.path_semantics.specs.Path.{Leads}
use Rattle.path_semantics.specs.Place.{Place, Stand, body_in, body_of, ways_of, rounds_of, ways}
use Rattle.path_semantics.specs.Told.{statements_in, RemainsIn, called_above, RemainsAt, next_numbers}
use Rattle.path_semantics.specs.Told.{HasDistinctNumbers}
use Rattle.path_semantics.proofs.Entries.{either-way}
use Rattle.path_semantics.proofs.Kept.{IsKept, kept-led}

-- Where paths lead

body-there : (procedure : Option Procedure) → Remains (statements_in procedure) (body_in procedure)
body-there None = inl refl
body-there (Some procedure) = body-remains procedure.body

module _ (program : Program) where
  on-in : (called : Option ℕ) (entry : Entry) (rest way : List Entry) → RemainsIn program called (entry ∷ rest)
      → IsAmong way (leads_to entry rest)
      → RemainsIn program called way
  on-in None entry rest way remains on = absurd remains
  on-in (Some procedure) entry rest way remains on =
      leads-remains (statements_in (slice_get program.procedures procedure)) entry rest way remains on

  end-in : (called : Option ℕ) (frame : List Entry) → RemainsIn program called frame → RemainsIn program called []
  end-in None frame remains = absurd remains
  end-in (Some procedure) frame remains = inl refl

  after-in : (called : Option ℕ) (frame : List Entry) → RemainsIn program called frame
      → RemainsIn program called (drop 1 frame)
  after-in called [] remains = remains
  after-in called (Run statement ∷ rest) remains = on-in called (Run statement) rest rest remains (inl refl)
  after-in called (Test statement ∷ rest) remains = on-in called (Test statement) rest rest remains (inl refl)
  after-in called (Last statement ∷ rest) remains = on-in called (Last statement) rest rest remains (inl refl)

module _ (program : Program) (self : Statement) (rest : List Entry) (callers way : Place) where
  -- past an entry of this statement
  past : (entry : Entry) → RemainsAt program ((entry ∷ rest) ∷ callers) → RemainsAt program (rest ∷ callers)
  past entry remains = (after-in program (called_above program callers) (entry ∷ rest) remains.0, remains.1)

  module _ (remains : RemainsAt program ((Run self ∷ rest) ∷ callers)) where
    into : (layer : What-F What Statement) (frame : List Entry) → out-What self.what ≡ layer
        → IsAmong frame (ways_into self rest layer)
        → RemainsAt program (frame ∷ callers)
    into layer frame is among = (
      on-in program (called_above program callers) (Run self) rest frame remains.0
          (inr (subst (λ (l : What-F What Statement). IsAmong frame (ways_into self rest l)) (sym is) among)),
      remains.1,
    )

    called : (layer : What-F What Statement) (procedure : ℕ) → out-What self.what ≡ layer
        → called_in layer ≡ Some procedure
        → RemainsAt program (body_of program procedure ∷ (Run self ∷ rest) ∷ callers)
    called layer procedure is calls = (
      subst (λ (one : Option ℕ). RemainsIn program one (body_of program procedure)) (sym (ap called_in is ∙ calls))
          (body-there (slice_get program.procedures procedure)),
      remains,
    )

    run-ways : (layer : What-F What Statement) → out-What self.what ≡ layer
        → IsAmong way (ways_of program self rest callers layer) → RemainsAt program way
    run-ways (What-F.If test first second) is among =
        either-way (RemainsAt program) way ((runs_of first ++ rest) ∷ callers) ((runs_of second ++ rest) ∷ callers)
        among
        (into (What-F.If test first second) (runs_of first ++ rest) is (inl refl))
        (into (What-F.If test first second) (runs_of second ++ rest) is (inr (inl refl)))
    run-ways (What-F.While test body) is among =
        either-way (RemainsAt program) way ((runs_of body ++ Run self ∷ rest) ∷ callers) (rest ∷ callers) among
        (into (What-F.While test body) (runs_of body ++ Run self ∷ rest) is (inl refl)) (past (Run self) remains)
    run-ways (What-F.DoUntil body test) is among =
        either-way (RemainsAt program) way (rest ∷ callers) ((runs_of body ++ Run self ∷ rest) ∷ callers) among
        (past (Run self) remains) (into (What-F.DoUntil body test) (runs_of body ++ Run self ∷ rest) is (inl refl))
    run-ways (What-F.For variable from to down step body last) is among =
        among-one (RemainsAt program) way ((Test self ∷ rest) ∷ callers) among
        (into (What-F.For variable from to down step body last) (Test self ∷ rest) is (inl refl))
    run-ways (What-F.AssignCall to procedure arguments) is among =
        among-one (RemainsAt program) way (body_of program procedure ∷ (Run self ∷ rest) ∷ callers) among
        (called (What-F.AssignCall to procedure arguments) procedure is refl)
    run-ways (What-F.Call procedure arguments) is among =
        among-one (RemainsAt program) way (body_of program procedure ∷ (Run self ∷ rest) ∷ callers) among
        (called (What-F.Call procedure arguments) procedure is refl)
    run-ways (What-F.Return value) is among =
        among-one (RemainsAt program) way ([] ∷ callers) among
        (end-in program (called_above program callers) (Run self ∷ rest) remains.0, remains.1)
    run-ways What-F.Stop is among = among-one (RemainsAt program) way [] among tt
    run-ways _ is among = among-one (RemainsAt program) way (rest ∷ callers) among (past (Run self) remains)

  module _ (remains : RemainsAt program ((Test self ∷ rest) ∷ callers)) where
    test-ways : (layer : What-F What Statement) → out-What self.what ≡ layer
        → IsAmong way (rounds_of self rest callers layer) → RemainsAt program way
    test-ways (What-F.For variable from to down step body last) is among =
        either-way (RemainsAt program) way ((runs_of body ++ Last self ∷ Test self ∷ rest) ∷ callers) (rest ∷ callers)
        among (
          on-in program (called_above program callers) (Test self) rest (runs_of body ++ Last self ∷ Test self ∷ rest)
              remains.0
              (inr (subst (λ (l : What-F What Statement). IsAmong (runs_of body ++ Last self ∷ Test self ∷ rest)
              (ways_round self rest l)) (sym is) (inl refl))),
          remains.1,
        )
        (past (Test self) remains)
    test-ways _ is among = among-one (RemainsAt program) way (rest ∷ callers) among (past (Test self) remains)

all-ways : (program : Program) (entry : Entry) (rest : List Entry) (callers way : Place)
    → RemainsAt program ((entry ∷ rest) ∷ callers)
    → IsAmong way (ways program entry rest callers) → RemainsAt program way
all-ways program (Run self) rest callers way remains among =
    run-ways program self rest callers way remains (out-What self.what) refl among
all-ways program (Test self) rest callers way remains among =
    test-ways program self rest callers way remains (out-What self.what) refl among
all-ways program (Last self) rest callers way remains among =
    among-one (RemainsAt program) way (rest ∷ callers) among (past program self rest callers way (Last self) remains)

pub led-remains : (program : Program) (path : List ℕ) (stand : Stand) → Leads program path stand
    → RemainsAt program stand.place
led-remains program path stand leads = kept-led program (RemainsAt program) kept path stand leads
  where
    kept : IsKept program (RemainsAt program)
    kept = record {
      first = (body-there (slice_get program.procedures program.main), tt);
      way = all-ways program;
      leaving = λ caller callers remains. (
        after-in program (called_above program callers) caller remains.1.0,
        remains.1.1,
      );
      ended = tt;
    }

-- Numbers

-- what a number finds in the procedure that is called
abbrev found_in : Program → Option ℕ → ℕ → Option (List Entry)
found_in program None number = None
found_in program (Some procedure) number = rest_from (statements_in (slice_get program.procedures procedure)) number

told-in : (program : Program) → HasDistinctNumbers program → (called : Option ℕ) (frame : List Entry)
    → RemainsIn program called frame
    → found_in program called (next_number frame) ≡ Some frame
told-in program numbered None frame remains = absurd remains
told-in program numbered (Some k) frame remains = which (slice_get program.procedures k) refl remains
  where
    which : (procedure : Option Procedure) → slice_get program.procedures k ≡ procedure
        → Remains (statements_in procedure) frame
        → rest_from (statements_in procedure) (next_number frame) ≡ Some frame
    which None there remains = told [] tt (λ n among. absurd among) frame remains
    which (Some procedure) there remains =
        told procedure.body (numbered.distinct k procedure there) (numbered.positive k procedure there) frame remains

pub places-told : (program : Program) → HasDistinctNumbers program → (one other : Place) → RemainsAt program one
    → RemainsAt program other
    → next_numbers one ≡ next_numbers other → one ≡ other
places-told program numbered [] [] first second same = refl
places-told program numbered [] (frame ∷ callers) first second same = absurd (cc)
places-told program numbered (frame ∷ callers) [] first second same = absurd (cc)
places-told program numbered (frame ∷ callers) (another ∷ others) first second same =
    let next : next_number frame ≡ next_number another = cc in
    let nexts : next_numbers callers ≡ next_numbers others = cc in
    let below : callers ≡ others = places-told program numbered callers others first.1 second.1 nexts in
    let found : Some frame ≡ Some another = sym (told-in program numbered (called_above program callers) frame first.0)
    ∙ ap₂ (λ (p : Place) (n : ℕ). found_in program (called_above program p) n) below next
    ∙ told-in program numbered (called_above program others) another second.0 in
    let top : frame ≡ another = cc in
    ap₂ (λ (f : List Entry) (fs : Place). f ∷ fs) top below
