-- What holds of each statement of a program holds of those that remain at each place.
use Rattle.std.proofs.Common.{◌≡◌, inl, inr, List, [], ◌∷◌, ◌++◌, drop, Option, Some, None, slice_get, refl, ap, subst}
use Rattle.std.proofs.Common.{sym, ◌∙◌, append-nil}
use Rattle.tal_tree.specs.declared.program.Program.{Program}
use Rattle.tal_tree.specs.declared.program.Procedure.{Procedure}
use Rattle.tal_tree.specs.declared.statement.Statement.{Statement}
use Rattle.tal_tree.specs.declared.statement.What.{What, What-F, out-What}
use Rattle.process_semantics.specs.State.{Entry, Run, Test, Last, runs_of}
use Rattle.tal_tree.specs.ByStatements.{HoldsInside, holds-before, by-statements}
use Rattle.tal_tree.specs.Statements.{all_in, all_of}
use Rattle.path_semantics.specs.Place.{Place, body_in, body_of, ways_of, rounds_of, ways}
use Rattle.gd_words.specs.Members.{IsAmong}
use Rattle.path_semantics.proofs.Kept.{IsKept}
use Rattle.gd_words.proofs.Among.{among-left, among-right, among-one, among-at}
use Rattle.process_semantics.proofs.Rests.{behind, behind-more}
use Rattle.process_semantics.proofs.Standing.{statement_of}
use Rattle.tal_tree.proofs.Within.{within_of, within-is, before-within}

abbrev pub HoldsIn : (Statement → Type 0) → List Statement → Type 0
HoldsIn P statements = (statement : Statement) → IsAmong statement (all_of statements) → P statement

-- of each entry's statement and of those that stand in it
abbrev pub HoldsOf : (Statement → Type 0) → Entry → Type 0
HoldsOf P entry = (statement : Statement) → IsAmong statement (all_in (statement_of entry)) → P statement

abbrev pub HoldsFor : (Statement → Type 0) → List Entry → Type 0
HoldsFor P [] = Unit {0}
HoldsFor P (entry ∷ rest) = HoldsOf P entry × HoldsFor P rest

abbrev pub HoldsAt : (Statement → Type 0) → Place → Type 0
HoldsAt P [] = Unit {0}
HoldsAt P (frame ∷ callers) = HoldsFor P frame × HoldsAt P callers

abbrev ForRuns : (Statement → Type 0) → List Statement → Type 0
ForRuns P statements = (rest : List Entry) → HoldsIn P statements → HoldsFor P rest
    → HoldsFor P (runs_of statements ++ rest)

more-runs : (P : Statement → Type 0) (first : Statement) (statements : List Statement)
    → HoldsInside (ForRuns P) (out-What first.what) → ForRuns P statements → ForRuns P (first ∷ statements)
more-runs P first statements inside others rest holds later =
    subst (HoldsFor P) (sym (behind-more first statements rest))
    (holds-before (ForRuns P) (λ after in_none after_holds. after_holds) (out-What first.what) inside
    (Run first ∷ behind statements rest)
    (λ statement among. holds statement (among-left statement (all_in first) (all_of statements)
    (inr (subst (IsAmong statement) (sym (within-is first.what))
    (before-within (out-What first.what) statement among))))) (
      (λ statement among. holds statement (among-left statement (all_in first) (all_of statements) among)),
      others rest
          (λ statement among. holds statement (among-right statement (all_in first) (all_of statements) among)) later,
    ))

for-runs : (P : Statement → Type 0) (statements : List Statement) → ForRuns P statements
for-runs P = by-statements (ForRuns P) (record { none = λ rest holds later. later; more = more-runs P })

-- what holds of a statement's parts
in-layer : (P : Statement → Type 0) (self : Statement) (what : What-F What Statement) → HoldsOf P (Run self)
    → out-What self.what ≡ what
    → (statement : Statement) → IsAmong statement (within_of what) → P statement
in-layer P self what holds is statement among =
    holds statement (inr (subst (IsAmong statement) (sym (within-is self.what ∙ ap within_of is)) among))

for-drop : (P : Statement → Type 0) (frame : List Entry) → HoldsFor P frame → HoldsFor P (drop 1 frame)
for-drop P [] holds = tt
for-drop P (entry ∷ rest) holds = holds.1

pub either-way : {A : Type 0} (P : A → Type 0) (way one other : A) → IsAmong way (one ∷ other ∷ []) → P one → P other
    → P way
either-way P way one other (inl same) first second = subst P (sym same) first
either-way P way one other (inr among) first second = among-one P way other among second

body-holds : (P : Statement → Type 0) (program : Program)
    → ((procedure : Procedure) (statement : Statement) → IsAmong procedure program.procedures
    → IsAmong statement (all_of procedure.body) → P statement)
    → (procedure : Option Procedure) → ((one : Procedure) → procedure ≡ Some one → IsAmong one program.procedures)
    → HoldsFor P (body_in procedure)
body-holds P program all None there = tt
body-holds P program all (Some procedure) there =
    subst (HoldsFor P) (append-nil (runs_of procedure.body))
    (for-runs P procedure.body [] (λ statement among. all procedure statement (there procedure refl) among) tt)

statement-way : (P : Statement → Type 0) (program : Program)
    → ((procedure : Procedure) (statement : Statement) → IsAmong procedure program.procedures
    → IsAmong statement (all_of procedure.body) → P statement)
    → (self : Statement) (rest : List Entry) (callers way : Place) (what : What-F What Statement)
    → out-What self.what ≡ what
    → HoldsOf P (Run self) → HoldsFor P rest → HoldsAt P callers → IsAmong way (ways_of program self rest callers what)
    → HoldsAt P way
statement-way P program all self rest callers way (What-F.If test first second) is own later above among =
    either-way (HoldsAt P) way ((runs_of first ++ rest) ∷ callers) ((runs_of second ++ rest) ∷ callers) among (
      for-runs P first rest (λ statement there.
          in-layer P self (What-F.If test first second) own is statement
          (among-left statement (all_of first) (all_of second) there)) later,
      above,
    ) (
      for-runs P second rest (λ statement there.
          in-layer P self (What-F.If test first second) own is statement
          (among-right statement (all_of first) (all_of second) there)) later,
      above,
    )
statement-way P program all self rest callers way (What-F.While test body) is own later above among =
    either-way (HoldsAt P) way ((runs_of body ++ Run self ∷ rest) ∷ callers) (rest ∷ callers) among
    (for-runs P body (Run self ∷ rest) (in-layer P self (What-F.While test body) own is) (own, later), above)
    (later, above)
statement-way P program all self rest callers way (What-F.DoUntil body test) is own later above among =
    either-way (HoldsAt P) way (rest ∷ callers) ((runs_of body ++ Run self ∷ rest) ∷ callers) among (later, above)
    (for-runs P body (Run self ∷ rest) (in-layer P self (What-F.DoUntil body test) own is) (own, later), above)
statement-way P program all self rest callers way (What-F.For variable from to down step body last) is own later above
    among =
    among-one (HoldsAt P) way ((Test self ∷ rest) ∷ callers) among ((own, later), above)
statement-way P program all self rest callers way (What-F.AssignCall to procedure arguments) is own later above among =
    among-one (HoldsAt P) way (body_of program procedure ∷ (Run self ∷ rest) ∷ callers) among (
      body-holds P program all (slice_get program.procedures procedure) (among-at program.procedures procedure),
      ((own, later), above),
    )
statement-way P program all self rest callers way (What-F.Call procedure arguments) is own later above among =
    among-one (HoldsAt P) way (body_of program procedure ∷ (Run self ∷ rest) ∷ callers) among (
      body-holds P program all (slice_get program.procedures procedure) (among-at program.procedures procedure),
      ((own, later), above),
    )
statement-way P program all self rest callers way (What-F.Return value) is own later above among =
    among-one (HoldsAt P) way ([] ∷ callers) among (tt, above)
statement-way P program all self rest callers way What-F.Stop is own later above among =
    among-one (HoldsAt P) way [] among tt
statement-way P program all self rest callers way _ is own later above among =
    among-one (HoldsAt P) way (rest ∷ callers) among (later, above)

round-way : (P : Statement → Type 0) (self : Statement) (rest : List Entry) (callers way : Place)
    (what : What-F What Statement) → out-What self.what ≡ what
    → HoldsOf P (Run self) → HoldsFor P rest → HoldsAt P callers → IsAmong way (rounds_of self rest callers what)
    → HoldsAt P way
round-way P self rest callers way (What-F.For variable from to down step body last) is own later above among =
    either-way (HoldsAt P) way ((runs_of body ++ Last self ∷ Test self ∷ rest) ∷ callers) (rest ∷ callers) among (
      for-runs P body (Last self ∷ Test self ∷ rest) (in-layer P self (What-F.For variable from to down step body last)
          own is)
          (own, (own, later)),
      above,
    ) (later, above)
round-way P self rest callers way _ is own later above among =
    among-one (HoldsAt P) way (rest ∷ callers) among (later, above)

entry-way : (P : Statement → Type 0) (program : Program)
    → ((procedure : Procedure) (statement : Statement) → IsAmong procedure program.procedures
    → IsAmong statement (all_of procedure.body) → P statement)
    → (entry : Entry) (rest : List Entry) (callers way : Place) → HoldsAt P ((entry ∷ rest) ∷ callers)
    → IsAmong way (ways program entry rest callers) → HoldsAt P way
entry-way P program all (Run self) rest callers way holds among =
    statement-way P program all self rest callers way (out-What self.what) refl holds.0.0 holds.0.1 holds.1 among
entry-way P program all (Test self) rest callers way holds among =
    round-way P self rest callers way (out-What self.what) refl holds.0.0 holds.0.1 holds.1 among
entry-way P program all (Last self) rest callers way holds among =
    among-one (HoldsAt P) way (rest ∷ callers) among (holds.0.1, holds.1)

pub entries-kept : (P : Statement → Type 0) (program : Program)
    → ((procedure : Procedure) (statement : Statement) → IsAmong procedure program.procedures
    → IsAmong statement (all_of procedure.body) → P statement)
    → IsKept program (HoldsAt P)
entries-kept P program all = record {
  first = (
    body-holds P program all (slice_get program.procedures program.main)
        (among-at program.procedures program.main),
    tt,
  );
  way = entry-way P program all;
  leaving = λ caller callers holds. (for-drop P caller holds.1.0, holds.1.1);
  ended = tt;
}
