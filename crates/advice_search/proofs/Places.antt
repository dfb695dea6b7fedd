-- The CHECKPOINTs of statements by their layers, and over more and more of a list.
use Rattle.std.proofs.Common.{◌≡◌, ◌≤◌, ◌⊎◌, inl, inr, ℕ, ◌+◌, ◌<◌, Bool, true, false, if◌then◌else◌, List, [], ◌∷◌}
use Rattle.std.proofs.Common.{◌++◌, map, filter, flat_map, length, take, get_or, refl, ap, sym, subst, ◌∙◌, append-nil}
use Rattle.std.proofs.lemmas.Grind.{flat_map-append}
use Rattle.std.proofs.lemmas.List.{map-append, take_more}
use Rattle.std.proofs.lemmas.List.Elements.{filter-append}
use Rattle.gd_words.specs.Members.{IsAmong}
use Rattle.gd_words.proofs.Among.{among-left, among-right, among-either, among-given, among-giver}
use Rattle.tal_tree.specs.ByStatements.{HoldsInside, by-statements}
use Rattle.tal_tree.specs.Limits.{IsWithinLimits}
use Rattle.tal_tree.specs.Statements.{body_before, within, all_in, all_of, numbers_of}
use Rattle.tal_tree.specs.declared.expression.Cond.{Cond}
use Rattle.tal_tree.specs.declared.expression.Expr.{Expr}
use Rattle.tal_tree.specs.declared.expression.Variable.{Variable}
use Rattle.tal_tree.specs.declared.program.Procedure.{Procedure}
use Rattle.tal_tree.specs.declared.program.Program.{Program}
use Rattle.tal_tree.specs.declared.statement.Statement.{Statement}
use Rattle.tal_tree.specs.declared.statement.What.{What, What-F, out-What, If, While, For, DoUntil}
use Rattle.tal_tree.specs.declared.statement.What.TheViews.{out-roll-What, rolls-If, rolls-While, rolls-For}
use Rattle.tal_tree.specs.declared.statement.What.TheViews.{rolls-DoUntil}
use Rattle.tal_tree.proofs.Numbers.{numbers_inside, numbers_by, numbers-by}
use Rattle.tal_tree.proofs.Within.{within_of, within-is}
use Rattle.advice.specs.Answer.{checkpoints_of, is_a_checkpoint, statements_of}
use Rattle.advice.specs.Due.{is_checkpoint}
use Rattle.advice_search.specs.declared.checkpoints.Checkpoint.{Checkpoint}
use Rattle.advice_search.specs.Lists.{place_of, places_of}

abbrev own_place : Statement → Bool → List Checkpoint
own_place statement is = if is then place_of statement ∷ [] else []

places-own : (statement : Statement) (rest : List Statement) (is : Bool)
    → map place_of (if is then statement ∷ filter is_a_checkpoint rest else filter is_a_checkpoint rest)
    ≡ own_place statement is ++ map place_of (filter is_a_checkpoint rest)
places-own statement rest true = refl
places-own statement rest false = refl

-- those of a statement, by one layer of it
abbrev places_by : Statement → What-F What Statement → List Checkpoint
places_by statement (What-F.Checkpoint items files) = place_of statement ∷ []
places_by statement (What-F.If test first second) = places_of first ++ places_of second
places_by statement (What-F.While test body) = places_of body
places_by statement (What-F.DoUntil body test) = places_of body
places_by statement (What-F.For variable from to down step body last) = places_of body
places_by statement _ = []

places-both : (first second : List Statement)
    → map place_of (filter is_a_checkpoint (first ++ second))
    ≡ map place_of (filter is_a_checkpoint first) ++ map place_of (filter is_a_checkpoint second)
places-both first second = ap (map place_of) (filter-append is_a_checkpoint first second)
    ∙ map-append place_of (filter is_a_checkpoint first) (filter is_a_checkpoint second)

by-layer : (statement : Statement) (layer : What-F What Statement)
    → own_place statement (is_checkpoint layer) ++ map place_of (filter is_a_checkpoint (within_of layer))
    ≡ places_by statement layer
by-layer statement (What-F.Checkpoint items files) = refl
by-layer statement (What-F.If test first second) = places-both (all_of first) (all_of second)
by-layer statement (What-F.While test body) = refl
by-layer statement (What-F.DoUntil body test) = refl
by-layer statement (What-F.For variable from to down step body last) = refl
by-layer statement (What-F.Assign to value) = refl
by-layer statement (What-F.AssignCall to procedure arguments) = refl
by-layer statement (What-F.Call procedure arguments) = refl
by-layer statement (What-F.Return value) = refl
by-layer statement (What-F.ReadUpdate buffer most got) = refl
by-layer statement (What-F.Reply buffer count) = refl
by-layer statement (What-F.WriteRead file buffer send room got) = refl
by-layer statement What-F.CheckMonitor = refl
by-layer statement (What-F.Open file) = refl
by-layer statement What-F.Stop = refl

statement-is : (statement : Statement) → places_of (statement ∷ []) ≡ places_by statement (out-What statement.what)
statement-is statement =
    places-own statement (within statement.what ++ []) (is_a_checkpoint statement)
    ∙ ap (λ (inner : List Statement). own_place statement (is_a_checkpoint statement) ++ map place_of
    (filter is_a_checkpoint inner))
    (append-nil (within statement.what) ∙ within-is statement.what)
    ∙ by-layer statement (out-What statement.what)

pub layer-is : (statement : Statement) (layer : What-F What Statement) → out-What statement.what ≡ layer
    → places_of (statement ∷ []) ≡ places_by statement layer
layer-is statement layer is = statement-is statement ∙ ap (places_by statement) is

pub places-if : (statement : Statement) (test : Cond) (first second : List Statement)
    → statement.what ≡ If test first second → places_of (statement ∷ []) ≡ places_of first ++ places_of second
places-if statement test first second is =
    layer-is statement (What-F.If test first second)
    (ap out-What (is ∙ sym (rolls-If test first second)) ∙ out-roll-What (What-F.If test first second))

pub places-while : (statement : Statement) (test : Cond) (body : List Statement) → statement.what ≡ While test body
    → places_of (statement ∷ []) ≡ places_of body
places-while statement test body is =
    layer-is statement (What-F.While test body)
    (ap out-What (is ∙ sym (rolls-While test body)) ∙ out-roll-What (What-F.While test body))

pub places-for : (statement : Statement) (variable : Variable) (from to : Expr) (down : Bool) (step : _)
    (body : List Statement) (last : ℕ)
    → statement.what ≡ For variable from to down step body last
    → places_of (statement ∷ []) ≡ places_of body
places-for statement variable from to down step body last is =
    layer-is statement (What-F.For variable from to down step body last)
    (ap out-What (is ∙ sym (rolls-For variable from to down step body last))
    ∙ out-roll-What (What-F.For variable from to down step body last))

pub places-do : (statement : Statement) (body : List Statement) (test : Cond) → statement.what ≡ DoUntil body test
    → places_of (statement ∷ []) ≡ places_of body
places-do statement body test is =
    layer-is statement (What-F.DoUntil body test)
    (ap out-What (is ∙ sym (rolls-DoUntil body test)) ∙ out-roll-What (What-F.DoUntil body test))

-- those of one statement more
pub one-more : (statements : List Statement) (k : ℕ) (statement : Statement)
    → statement ≡ get_or statements k statement → k < length statements
    → places_of (take (k + 1) statements) ≡ places_of (take k statements) ++ places_of (statement ∷ [])
one-more statements k statement is inside =
    ap places_of (take_more statements k statement inside
    ∙ ap (λ (x : Statement). take k statements ++ x ∷ []) (sym is))
    ∙ ap (λ (all : List Statement). map place_of (filter is_a_checkpoint all))
    (flat_map-append all_in (take k statements) (statement ∷ []))
    ∙ places-both (all_of (take k statements)) (all_of (statement ∷ []))

-- those of all procedures
pub all-places : (procedures : List Procedure) → flat_map (λ procedure. places_of procedure.body) procedures
    ≡ map place_of (filter is_a_checkpoint (flat_map (λ procedure. all_of procedure.body) procedures))
all-places [] = refl
all-places (procedure ∷ rest) =
    ap (λ (later : List Checkpoint). places_of procedure.body ++ later) (all-places rest)
    ∙ sym (places-both (all_of procedure.body) (flat_map (λ (one : Procedure). all_of one.body) rest))

-- A statement's number is one of the program's

abbrev AreNumbered : List Statement → Type 0
AreNumbered statements =
    (statement : Statement) → IsAmong statement (all_of statements) → IsAmong statement.number (numbers_of statements)

inside-numbered : (number : ℕ) (layer : What-F What Statement) → HoldsInside AreNumbered layer
    → (statement : Statement) → IsAmong statement (within_of layer)
    → IsAmong statement.number (numbers_by number layer)
inside-numbered number (What-F.If test first second) inside statement among =
    elim (among-either statement (all_of first) (all_of second) among) [
      | inl one ↦ inr (among-left statement.number (numbers_of first) (numbers_of second) (inside.0 statement one))
      | inr other ↦ inr (among-right statement.number (numbers_of first) (numbers_of second) (inside.1 statement other))
    ]
inside-numbered number (What-F.While test body) inside statement among = inr (inside statement among)
inside-numbered number (What-F.DoUntil body test) inside statement among =
    among-left statement.number (numbers_of body) (number ∷ []) (inside statement among)
inside-numbered number (What-F.For variable from to down step body last) inside statement among =
    inr (inr (among-left statement.number (numbers_of body) (last ∷ []) (inside statement among)))
inside-numbered number (What-F.Assign to value) inside statement among = absurd among
inside-numbered number (What-F.AssignCall to procedure arguments) inside statement among = absurd among
inside-numbered number (What-F.Call procedure arguments) inside statement among = absurd among
inside-numbered number (What-F.Return value) inside statement among = absurd among
inside-numbered number (What-F.ReadUpdate buffer most got) inside statement among = absurd among
inside-numbered number (What-F.Reply buffer count) inside statement among = absurd among
inside-numbered number (What-F.WriteRead file buffer send room got) inside statement among = absurd among
inside-numbered number (What-F.Checkpoint items files) inside statement among = absurd among
inside-numbered number What-F.CheckMonitor inside statement among = absurd among
inside-numbered number (What-F.Open file) inside statement among = absurd among
inside-numbered number What-F.Stop inside statement among = absurd among

more-numbered : (first : Statement) (rest : List Statement) → HoldsInside AreNumbered (out-What first.what)
    → AreNumbered rest → AreNumbered (first ∷ rest)
more-numbered first rest inside later statement among =
    subst (IsAmong statement.number) (sym (numbers-by first rest))
    (elim (among-either statement (all_in first) (all_of rest) among) [
      | inl own ↦ among-left statement.number all (numbers_of rest) (by_own own)
      | inr behind ↦ among-right statement.number all (numbers_of rest) (later statement behind)
    ])
  where
    all : List ℕ
    all = numbers_by first.number (out-What first.what)

    by_own : IsAmong statement (all_in first) → IsAmong statement.number all
    by_own (inl same) =
        among-right statement.number (numbers_of (body_before (out-What first.what)))
        (first.number ∷ numbers_inside first.number (out-What first.what)) (inl (ap (λ (s : Statement). s.number) same))
    by_own (inr within_it) =
        inside-numbered first.number (out-What first.what) inside statement
        (subst (IsAmong statement) (within-is first.what) within_it)

numbered : (statements : List Statement) → AreNumbered statements
numbered = by-statements AreNumbered (record { none = λ statement among. absurd among; more = more-numbered })

among-filtered : (statement : Statement) (statements : List Statement) → IsAmong statement
    (filter is_a_checkpoint statements)
    → IsAmong statement statements
among-filtered statement [] among = absurd among
among-filtered statement (first ∷ rest) among = by_test (among-filtered statement rest) (is_a_checkpoint first) among
  where
    by_test : (IsAmong statement (filter is_a_checkpoint rest) → IsAmong statement rest) → (b : Bool)
        → IsAmong statement (if b then first ∷ filter is_a_checkpoint rest else filter is_a_checkpoint rest)
        → IsAmong statement (first ∷ rest)
    by_test behind true (inl same) = inl same
    by_test behind true (inr later) = inr (behind later)
    by_test behind false later = inr (behind later)

pub checkpoint-low : (program : Program) → IsWithinLimits program → (statement : Statement)
    → IsAmong statement (checkpoints_of program) → statement.number ≤ 2000
checkpoint-low program limits statement among =
    let inside = among-giver (λ (procedure : Procedure). all_of procedure.body) statement program.procedures
    (among-filtered statement (statements_of program) among) in
    (limits.numbers statement.number (among-given (λ (procedure : Procedure). numbers_of procedure.body) inside.0
    statement.number program.procedures inside.1
    (numbered inside.0.body statement inside.2))).1
