-- Every step keeps the frames apart.
use Rattle.std.proofs.Common.{◌≡◌, inl, inr, ℕ, ◌+◌, ◌<◌, arith, List, [], ◌∷◌, ◌++◌, slice_get, flat_map, refl, ap}
use Rattle.std.proofs.Common.{subst, sym, ◌∙◌}
use Rattle.tal_tree.specs.declared.program.Program.{Program}
use Rattle.tal_tree.specs.declared.statement.Statement.{Statement}
use Rattle.tal_tree.specs.declared.statement.What.{What, What-F, out-What}
use Rattle.process_semantics.specs.State.{Entry, Run, Test, Last, runs_of}
use Rattle.process_semantics.specs.Rests.{entry_number}
use Rattle.tal_tree.specs.Statements.{last_of, within, all_in, all_of, numbers_of, call_in, own_calls, calls_of}
use Rattle.path_semantics.specs.Place.{Place, body_of, ways_of, rounds_of, ways}
use Rattle.gd_words.specs.Members.{AreDistinct, IsAmong}
use Rattle.tal_tree.specs.Ordered.{IsOrdered}
use Rattle.gd_words.proofs.Distinct.{distinct-left, distinct-right, distinct-apart, given-part}
use Rattle.path_semantics.proofs.Entries.{either-way}
use Rattle.path_semantics.proofs.Kept.{IsKept}
use Rattle.path_semantics.proofs.Levels.{inside, inside_test, numbers_at, calls_at, BelongsTo, IsFrameOf, AreLevels}
use Rattle.path_semantics.proofs.Levels.{apart-join, apart-runs, run-numbers, run-calls, dropped, body-frame}
use Rattle.gd_words.proofs.Among.{among-left, among-right, among-either, among-one}
use Rattle.tal_tree.proofs.Within.{within_of, within-is}

-- the statements of a branch or a body, within a statement of some entry
pub record ArePartOf (entry : Entry) (part : List Statement) : Type 0 where
  pub numbers : (n : ℕ) → IsAmong n (numbers_of part) → IsAmong n (numbers_at entry)
  pub calls : (called : ℕ) → IsAmong called (calls_of part) → IsAmong called (calls_at entry)
  pub distinct : AreDistinct (numbers_of part)

-- the entries of a part, before others that are apart from it
part-frame : (program : Program) (k : ℕ) (entry : Entry) (part : List Statement) (rest : List Entry)
    → ArePartOf entry part → BelongsTo program k entry → IsFrameOf program k rest
    → ((later : Entry) → IsAmong later rest → IsAmong (entry_number later) (numbers_of part) → ⊥)
    → IsFrameOf program k (runs_of part ++ rest)
part-frame program k entry part rest is belongs later cross = record {
  apart = apart-join (runs_of part) rest (apart-runs part is.distinct) later.apart
      (λ one other among there'. λ inner. cross other there' (run-numbers part one (entry_number other) among inner));
  belong = λ one among. elim (among-either one (runs_of part) rest among) [
    | inl in_part ↦ record {
      numbers = λ n inner. belongs.numbers n (is.numbers n (run-numbers part one n in_part inner));
      calls = λ called inner. belongs.calls called (is.calls called (run-calls part one called in_part inner));
    }
    | inr in_rest ↦ later.belong one in_rest
  ];
}

tail-frame : (program : Program) (k : ℕ) (entry : Entry) (rest : List Entry) → IsFrameOf program k (entry ∷ rest)
    → IsFrameOf program k rest
tail-frame program k entry rest is = dropped program k (entry ∷ rest) is

-- a frame with another first entry that has no other numbers and calls
other-first : (program : Program) (k : ℕ) (entry other : Entry) (rest : List Entry)
    → IsFrameOf program k (entry ∷ rest) → AreDistinct (numbers_at other)
    → ((n : ℕ) → IsAmong n (numbers_at other) → IsAmong n (numbers_at entry))
    → ((n : ℕ) → IsAmong n (calls_at other) → IsAmong n (calls_at entry))
    → IsFrameOf program k (other ∷ rest)
other-first program k entry other rest is distinct numbers calls = record {
  apart = (distinct, (λ later among inner. is.apart.1 later among (numbers (entry_number later) inner)), is.apart.2);
  belong = λ one among. first-or-later one among;
}
  where
    first-or-later : (one : Entry) → IsAmong one (other ∷ rest) → BelongsTo program k one
    first-or-later one (inl same) = subst (BelongsTo program k) (sym same) (record {
      numbers = λ n inner. (is.belong entry (inl refl)).numbers n (numbers n inner);
      calls = λ called inner. (is.belong entry (inl refl)).calls called (calls called inner);
    })
    first-or-later one (inr among) = is.belong one (inr among)

-- the parts of statements

part-calls : (self : Statement) (what : What-F What Statement) (part : List Statement) → out-What self.what ≡ what
    → ((statement : Statement) → IsAmong statement (all_of part) → IsAmong statement (within_of what))
    → (called : ℕ) → IsAmong called (calls_of part) → IsAmong called (flat_map own_calls (all_in self))
part-calls self what part is among called inner =
    among-right called (own_calls self) (flat_map own_calls (within self.what))
    (subst (λ (parts : List Statement). IsAmong called (flat_map own_calls parts))
    (sym (within-is self.what ∙ ap within_of is))
    (given-part own_calls (all_of part) (within_of what) among called inner))

pub if-first : (self : Statement) (test : _) (first second : List Statement)
    → out-What self.what ≡ What-F.If test first second → AreDistinct (numbers_at (Run self))
    → ArePartOf (Run self) first
if-first self test first second is distinct =
    let numbers : numbers_at (Run self) ≡ inside self.number (What-F.If test first second) =
    ap (inside self.number) is in
    record {
      numbers = λ n inner. subst (IsAmong n) (sym numbers)
          (inr (among-left n (numbers_of first) (numbers_of second) inner));
      calls = part-calls self (What-F.If test first second) first is
          (λ s among. among-left s (all_of first) (all_of second) among);
      distinct = distinct-left (numbers_of first) (numbers_of second) (subst AreDistinct numbers distinct).1;
    }

pub if-second : (self : Statement) (test : _) (first second : List Statement)
    → out-What self.what ≡ What-F.If test first second → AreDistinct (numbers_at (Run self))
    → ArePartOf (Run self) second
if-second self test first second is distinct =
    let numbers : numbers_at (Run self) ≡ inside self.number (What-F.If test first second) =
    ap (inside self.number) is in
    record {
      numbers = λ n inner. subst (IsAmong n) (sym numbers)
          (inr (among-right n (numbers_of first) (numbers_of second) inner));
      calls = part-calls self (What-F.If test first second) second is
          (λ s among. among-right s (all_of first) (all_of second) among);
      distinct = distinct-right (numbers_of first) (numbers_of second) (subst AreDistinct numbers distinct).1;
    }

pub while-body : (self : Statement) (test : _) (body : List Statement) → out-What self.what ≡ What-F.While test body
    → AreDistinct (numbers_at (Run self)) → ArePartOf (Run self) body
while-body self test body is distinct =
    let numbers : numbers_at (Run self) ≡ inside self.number (What-F.While test body) = ap (inside self.number) is in
    record {
      numbers = λ n inner. subst (IsAmong n) (sym numbers) (inr inner);
      calls = part-calls self (What-F.While test body) body is (λ s among. among);
      distinct = (subst AreDistinct numbers distinct).1;
    }

pub do-body : (self : Statement) (body : List Statement) (test : _) → out-What self.what ≡ What-F.DoUntil body test
    → AreDistinct (numbers_at (Run self)) → ArePartOf (Run self) body
do-body self body test is distinct =
    let numbers : numbers_at (Run self) ≡ inside self.number (What-F.DoUntil body test) = ap (inside self.number) is in
    record {
      numbers = λ n inner. subst (IsAmong n) (sym numbers) (inr (among-left n (numbers_of body) [] inner));
      calls = part-calls self (What-F.DoUntil body test) body is (λ s among. among);
      distinct = distinct-left (numbers_of body) [] (subst AreDistinct numbers distinct).1;
    }

pub for-body : (self : Statement) (variable : _) (from to : _) (down : _) (step : _) (body : List Statement) (last : ℕ)
    → out-What self.what ≡ What-F.For variable from to down step body last
    → AreDistinct (numbers_at (Test self)) → ArePartOf (Test self) body
for-body self variable from to down step body last is distinct =
    let numbers : numbers_at (Test self) ≡ inside_test self.number (What-F.For variable from to down step body last) =
    ap (inside_test self.number) is in
    record {
      numbers = λ n inner. subst (IsAmong n) (sym numbers) (inr (among-left n (numbers_of body) (last ∷ []) inner));
      calls = part-calls self (What-F.For variable from to down step body last) body is (λ s among. among);
      distinct = distinct-left (numbers_of body) (last ∷ []) (subst AreDistinct numbers distinct).1;
    }

-- Ways

-- the frame inside a branch
branch-frame : (program : Program) (k : ℕ) (entry : Entry) (part : List Statement) (rest : List Entry)
    → ArePartOf entry part → IsFrameOf program k (entry ∷ rest)
    → IsFrameOf program k (runs_of part ++ rest)
branch-frame program k entry part rest is frame =
    part-frame program k entry part rest is (frame.belong entry (inl refl)) (tail-frame program k entry rest frame)
    (λ later among inner. frame.apart.1 later among (is.numbers (entry_number later) inner))

-- the frame inside a WHILE or a DO, which comes again
again-frame : (program : Program) (k : ℕ) (self : Statement) (body : List Statement) (rest : List Entry)
    → ArePartOf (Run self) body → (IsAmong self.number (numbers_of body) → ⊥)
    → IsFrameOf program k (Run self ∷ rest) → IsFrameOf program k (runs_of body ++ Run self ∷ rest)
again-frame program k self body rest part outside frame =
    part-frame program k (Run self) body (Run self ∷ rest) part (frame.belong (Run self) (inl refl)) frame
    (λ later among inner. apart-from later among inner)
  where
    apart-from : (later : Entry) → IsAmong later (Run self ∷ rest) → IsAmong (entry_number later) (numbers_of body) → ⊥
    apart-from later (inl same) inner =
        outside (subst (λ (e : Entry). IsAmong (entry_number e) (numbers_of body)) same inner)
    apart-from later (inr among) inner = frame.apart.1 later among (part.numbers (entry_number later) inner)

while-frame : (program : Program) (k : ℕ) (self : Statement) (test : _) (body : List Statement) (rest : List Entry)
    → out-What self.what ≡ What-F.While test body
    → IsFrameOf program k (Run self ∷ rest) → IsFrameOf program k (runs_of body ++ Run self ∷ rest)
while-frame program k self test body rest is frame =
    let distinct : AreDistinct (self.number ∷ numbers_of body) =
    subst AreDistinct (ap (inside self.number) is) frame.apart.0 in
    again-frame program k self body rest (while-body self test body is frame.apart.0) distinct.0 frame

do-frame : (program : Program) (k : ℕ) (self : Statement) (body : List Statement) (test : _) (rest : List Entry)
    → out-What self.what ≡ What-F.DoUntil body test
    → IsFrameOf program k (Run self ∷ rest) → IsFrameOf program k (runs_of body ++ Run self ∷ rest)
do-frame program k self body test rest is frame =
    let distinct : AreDistinct (self.number ∷ (numbers_of body ++ [])) =
    subst AreDistinct (ap (inside self.number) is) frame.apart.0 in
    again-frame program k self body rest (do-body self body test is frame.apart.0)
    (λ among. distinct.0 (among-left self.number (numbers_of body) [] among)) frame

for-frame : (program : Program) (k : ℕ) (self : Statement) (variable : _) (from to : _) (down : _) (step : _) (body :
    List Statement)
    (last : ℕ) (rest : List Entry)
    → out-What self.what ≡ What-F.For variable from to down step body last → IsFrameOf program k (Run self ∷ rest)
    → IsFrameOf program k (Test self ∷ rest)
for-frame program k self variable from to down step body last rest is frame =
    let whole : numbers_at (Run self) ≡ inside self.number (What-F.For variable from to down step body last) =
    ap (inside self.number) is in
    let test : numbers_at (Test self) ≡ inside_test self.number (What-F.For variable from to down step body last) =
    ap (inside_test self.number) is in
    other-first program k (Run self) (Test self) rest frame
    (subst AreDistinct (sym test) (subst AreDistinct whole frame.apart.0).1)
    (λ n inner. subst (IsAmong n) (sym whole) (inr (subst (IsAmong n) test inner))) (λ n inner. inner)

-- the frame inside a FOR, whose last assignment and test come again
round-frame : (program : Program) (k : ℕ) (self : Statement) (variable : _) (from to : _) (down : _) (step : _) (body :
    List Statement)
    (last : ℕ) (rest : List Entry)
    → out-What self.what ≡ What-F.For variable from to down step body last → IsFrameOf program k (Test self ∷ rest)
    → IsFrameOf program k (runs_of body ++ Last self ∷ Test self ∷ rest)
round-frame program k self variable from to down step body last rest is frame =
    let test : numbers_at (Test self) ≡ inside_test self.number (What-F.For variable from to down step body last) =
    ap (inside_test self.number) is in
    let distinct : AreDistinct (inside_test self.number (What-F.For variable from to down step body last)) =
    subst AreDistinct test frame.apart.0 in
    let part = for-body self variable from to down step body last is frame.apart.0 in
    let count : last_of (out-What self.what) ≡ last = ap last_of is in
    let again : IsFrameOf program k (Last self ∷ Test self ∷ rest) = record {
      apart = (
        ((λ among. among), tt),
        (λ later among inner. last-apart later among inner test distinct count),
        frame.apart,
      );
      belong = λ one among. last-or-later one among test count;
    } in
    part-frame program k (Test self) body (Last self ∷ Test self ∷ rest) part (frame.belong (Test self) (inl refl))
    again
    (λ later among inner. apart-from later among inner part distinct count)
  where
    last-apart : (later : Entry) → IsAmong later (Test self ∷ rest)
        → IsAmong (entry_number later) (last_of (out-What self.what) ∷ [])
        → numbers_at (Test self) ≡ (self.number + 1) ∷ numbers_of body ++ last ∷ []
        → AreDistinct ((self.number + 1) ∷ numbers_of body ++ last ∷ [])
        → last_of (out-What self.what) ≡ last → ⊥
    last-apart later (inl same) (inl equal) test distinct count =
        distinct.0 (among-right (self.number + 1) (numbers_of body) (last ∷ [])
        (inl (sym (ap entry_number same) ∙ equal ∙ count)))
    last-apart later (inl same) (inr among) test distinct count = among
    last-apart later (inr there') (inl equal) test distinct count =
        frame.apart.1 later there' (subst (IsAmong (entry_number later)) (sym test)
        (inr (among-right (entry_number later) (numbers_of body) (last ∷ []) (inl (equal ∙ count)))))
    last-apart later (inr there') (inr among) test distinct count = among

    in-test : (n : ℕ) → IsAmong n (last_of (out-What self.what) ∷ [])
        → numbers_at (Test self) ≡ (self.number + 1) ∷ numbers_of body ++ last ∷ []
        → last_of (out-What self.what) ≡ last → IsAmong n (numbers_at (Test self))
    in-test n (inl equal) test count =
        subst (IsAmong n) (sym test) (inr (among-right n (numbers_of body) (last ∷ []) (inl (equal ∙ count))))
    in-test n (inr among) test count = absurd among

    last-or-later : (one : Entry) → IsAmong one (Last self ∷ Test self ∷ rest)
        → numbers_at (Test self) ≡ (self.number + 1) ∷ numbers_of body ++ last ∷ []
        → last_of (out-What self.what) ≡ last → BelongsTo program k one
    last-or-later one (inl same) test count = subst (BelongsTo program k) (sym same) (record {
      numbers = λ n inner. (frame.belong (Test self) (inl refl)).numbers n (in-test n inner test count);
      calls = λ called inner. (frame.belong (Test self) (inl refl)).calls called inner;
    })
    last-or-later one (inr among) test count = frame.belong one among

    apart-from : (later : Entry) → IsAmong later (Last self ∷ Test self ∷ rest)
        → IsAmong (entry_number later) (numbers_of body) → ArePartOf (Test self) body
        → AreDistinct ((self.number + 1) ∷ numbers_of body ++ last ∷ []) → last_of (out-What self.what) ≡ last → ⊥
    apart-from later (inl same) inner part distinct count =
        distinct-apart (numbers_of body) (last ∷ []) distinct.1 last
        (subst (λ (n : ℕ). IsAmong n (numbers_of body)) (ap entry_number same ∙ count) inner) (inl refl)
    apart-from later (inr (inl same)) inner part distinct count =
        distinct.0 (among-left (self.number + 1) (numbers_of body) (last ∷ [])
        (subst (λ (n : ℕ). IsAmong n (numbers_of body)) (ap entry_number same) inner))
    apart-from later (inr (inr among)) inner part distinct count =
        frame.apart.1 later among (part.numbers (entry_number later) inner)

statement-levels : (program : Program) → IsOrdered program
    → (self : Statement) (rest : List Entry) (callers way : Place) (what : What-F What Statement)
    → out-What self.what ≡ what
    → (k : ℕ) → IsFrameOf program k (Run self ∷ rest) → AreLevels program (k + 1) callers
    → IsAmong way (ways_of program self rest callers what) → AreLevels program 0 way
statement-levels program ordered self rest callers way (What-F.If test first second) is k frame above among =
    either-way (AreLevels program 0) way ((runs_of first ++ rest) ∷ callers)
    ((runs_of second ++ rest) ∷ callers) among (
      k,
      omega arith,
      branch-frame program k (Run self) first rest (if-first self test first second is frame.apart.0)
          frame,
      above,
    ) (
      k,
      omega arith,
      branch-frame program k (Run self) second rest (if-second self test first second is frame.apart.0)
          frame,
      above,
    )
statement-levels program ordered self rest callers way (What-F.While test body) is k frame above among =
    either-way (AreLevels program 0) way ((runs_of body ++ Run self ∷ rest) ∷ callers) (rest ∷ callers) among
    (k, omega arith, while-frame program k self test body rest is frame, above)
    (k, omega arith, tail-frame program k (Run self) rest frame, above)
statement-levels program ordered self rest callers way (What-F.DoUntil body test) is k frame above among =
    either-way (AreLevels program 0) way (rest ∷ callers) ((runs_of body ++ Run self ∷ rest) ∷ callers) among
    (k, omega arith, tail-frame program k (Run self) rest frame, above)
    (k, omega arith, do-frame program k self body test rest is frame, above)
statement-levels program ordered self rest callers way (What-F.For variable from to down step body last) is k frame
    above among =
    among-one (AreLevels program 0) way ((Test self ∷ rest) ∷ callers) among
    (k, omega arith, for-frame program k self variable from to down step body last rest is frame, above)
statement-levels program ordered self rest callers way (What-F.AssignCall to procedure arguments) is k frame above
    among =
    let before : procedure < k = (frame.belong (Run self) (inl refl)).calls procedure (inl-call (ap call_in is)) in
    among-one (AreLevels program 0) way (body_of program procedure ∷ (Run self ∷ rest) ∷ callers) among (
      procedure,
      omega arith,
      body-frame program ordered procedure (slice_get program.procedures procedure) refl,
      (k, omega arith, frame, above),
    )
  where
    inl-call : own_calls self ≡ procedure ∷ [] → IsAmong procedure (calls_at (Run self))
    inl-call equal = among-left procedure (own_calls self) (flat_map own_calls (within self.what))
        (subst (IsAmong procedure) (sym equal) (inl refl))
statement-levels program ordered self rest callers way (What-F.Call procedure arguments) is k frame above among =
    let before : procedure < k = (frame.belong (Run self) (inl refl)).calls procedure (inl-call (ap call_in is)) in
    among-one (AreLevels program 0) way (body_of program procedure ∷ (Run self ∷ rest) ∷ callers) among (
      procedure,
      omega arith,
      body-frame program ordered procedure (slice_get program.procedures procedure) refl,
      (k, omega arith, frame, above),
    )
  where
    inl-call : own_calls self ≡ procedure ∷ [] → IsAmong procedure (calls_at (Run self))
    inl-call equal = among-left procedure (own_calls self) (flat_map own_calls (within self.what))
        (subst (IsAmong procedure) (sym equal) (inl refl))
statement-levels program ordered self rest callers way (What-F.Return value) is k frame above among =
    among-one (AreLevels program 0) way ([] ∷ callers) among
    (k, omega arith, record { apart = tt; belong = λ entry there'. absurd there' }, above)
statement-levels program ordered self rest callers way What-F.Stop is k frame above among =
    among-one (AreLevels program 0) way [] among tt
statement-levels program ordered self rest callers way _ is k frame above among =
    among-one (AreLevels program 0) way (rest ∷ callers) among
    (k, omega arith, tail-frame program k (Run self) rest frame, above)

round-levels : (program : Program) (self : Statement) (rest : List Entry) (callers way : Place)
    (what : What-F What Statement) → out-What self.what ≡ what
    → (k : ℕ) → IsFrameOf program k (Test self ∷ rest) → AreLevels program (k + 1) callers
    → IsAmong way (rounds_of self rest callers what) → AreLevels program 0 way
round-levels program self rest callers way (What-F.For variable from to down step body last) is k frame above among =
    either-way (AreLevels program 0) way ((runs_of body ++ Last self ∷ Test self ∷ rest) ∷ callers) (rest ∷ callers)
    among
    (k, omega arith, round-frame program k self variable from to down step body last rest is frame, above)
    (k, omega arith, tail-frame program k (Test self) rest frame, above)
round-levels program self rest callers way _ is k frame above among =
    among-one (AreLevels program 0) way (rest ∷ callers) among
    (k, omega arith, tail-frame program k (Test self) rest frame, above)

way-levels : (program : Program) → IsOrdered program → (entry : Entry) (rest : List Entry) (callers way : Place)
    → AreLevels program 0 ((entry ∷ rest) ∷ callers)
    → IsAmong way (ways program entry rest callers) → AreLevels program 0 way
way-levels program ordered (Run self) rest callers way levels among =
    statement-levels program ordered self rest callers way (out-What self.what) refl levels.0 levels.2 levels.3 among
way-levels program ordered (Test self) rest callers way levels among =
    round-levels program self rest callers way (out-What self.what) refl levels.0 levels.2 levels.3 among
way-levels program ordered (Last self) rest callers way levels among =
    among-one (AreLevels program 0) way (rest ∷ callers) among
    (levels.0, omega arith, tail-frame program levels.0 (Last self) rest levels.2, levels.3)

pub levels-kept : (program : Program) → IsOrdered program → IsKept program (AreLevels program 0)
levels-kept program ordered = record {
  first = (
    program.main,
    omega arith,
    body-frame program ordered program.main
        (slice_get program.procedures program.main) refl,
    tt,
  );
  way = way-levels program ordered;
  leaving = λ caller callers levels. (
    levels.3.0,
    omega arith,
    dropped program levels.3.0 caller levels.3.2,
    levels.3.3,
  );
  ended = tt;
}
