-- The greatest depth of what is called: of the parts of a body, and against the depths of the procedures before.
use Rattle.std.proofs.Common.{◌≡◌, ℕ, zero, suc, ◌+◌, ◌<◌, ◌≤◌, arith, List, [], ◌∷◌, ◌++◌, map, length, get_or, take}
use Rattle.std.proofs.Common.{drop, slice_get, flat_map, refl, ap, ap₂, sym, ◌∙◌}
use Rattle.std.specs.Prelude.{max}
use Rattle.std.specs.Option.{unwrap_or}
use Rattle.std.proofs.lemmas.Grind.{flat_map-append}
use Rattle.std.proofs.lemmas.List.{append-nil, map-append, take_more, at_drop_more}
use Rattle.tal_tree.specs.declared.expression.Cond.{Cond}
use Rattle.tal_tree.specs.declared.expression.Expr.{Expr}
use Rattle.tal_tree.specs.declared.expression.Variable.{Variable}
use Rattle.tal_tree.specs.declared.program.Procedure.{Procedure}
use Rattle.tal_tree.specs.declared.statement.Statement.{Statement}
use Rattle.tal_tree.specs.declared.statement.What.{What, What-F, out-What, roll-What, If, While, For}
use Rattle.tal_tree.specs.declared.statement.What.{DoUntil}
use Rattle.tal_tree.specs.declared.statement.What.TheViews.{out-roll-What, rolls-If, rolls-While, rolls-For}
use Rattle.tal_tree.specs.declared.statement.What.TheViews.{rolls-DoUntil}
use Rattle.path_semantics.specs.Bounds.{greatest, of_called, depth_from, in_order}
use Rattle.tal_tree.specs.Statements.{within, all_in, all_of, call_in, own_calls, calls_of}
use Rattle.tal_tree.proofs.Within.{within_of, within-is}

abbrev look : List ℕ → ℕ → ℕ
look before procedure = unwrap_or (slice_get before procedure) 0

greatest-append : (xs ys : List ℕ) → greatest (xs ++ ys) ≡ max (greatest xs) (greatest ys)
greatest-append [] ys = omega arith
greatest-append (x ∷ xs) ys =
    let rest : greatest (xs ++ ys) ≡ max (greatest xs) (greatest ys) = greatest-append xs ys in omega arith

called-append : (before : List ℕ) (xs ys : List Statement)
    → of_called before (xs ++ ys) ≡ of_called before xs ++ of_called before ys
called-append before xs ys =
    ap (λ (parts : List Statement). map (look before) (flat_map own_calls parts)) (flat_map-append all_in xs ys)
    ∙ ap (map (look before)) (flat_map-append own_calls (all_of xs) (all_of ys))
    ∙ map-append (look before) (calls_of xs) (calls_of ys)

deepest-append : (before : List ℕ) (xs ys : List Statement)
    → greatest (of_called before (xs ++ ys)) ≡ max (greatest (of_called before xs)) (greatest (of_called before ys))
deepest-append before xs ys =
    ap greatest (called-append before xs ys) ∙ greatest-append (of_called before xs) (of_called before ys)

-- the greatest depth of what a statement calls, by one layer of it
abbrev deepest_by : List ℕ → What-F What Statement → ℕ
deepest_by before (What-F.AssignCall to procedure arguments) = look before procedure
deepest_by before (What-F.Call procedure arguments) = look before procedure
deepest_by before (What-F.If test first second) =
    max (greatest (of_called before first)) (greatest (of_called before second))
deepest_by before (What-F.While test body) = greatest (of_called before body)
deepest_by before (What-F.For variable from to down step body last) = greatest (of_called before body)
deepest_by before (What-F.DoUntil body test) = greatest (of_called before body)
deepest_by before _ = 0

greatest-one : (n : ℕ) → max n 0 ≡ n
greatest-one n = omega arith

by_layer : (before : List ℕ) (what : What-F What Statement)
    → greatest (map (look before) (call_in what ++ flat_map own_calls (within_of what))) ≡ deepest_by before what
by_layer before (What-F.Assign to value) = refl
by_layer before (What-F.AssignCall to procedure arguments) = greatest-one (look before procedure)
by_layer before (What-F.If test first second) =
    ap (λ (called : List ℕ). greatest (map (look before) called))
    (flat_map-append own_calls (all_of first) (all_of second))
    ∙ ap greatest (map-append (look before) (calls_of first) (calls_of second))
    ∙ greatest-append (of_called before first) (of_called before second)
by_layer before (What-F.While test body) = refl
by_layer before (What-F.For variable from to down step body last) = refl
by_layer before (What-F.DoUntil body test) = refl
by_layer before (What-F.Call procedure arguments) = greatest-one (look before procedure)
by_layer before (What-F.Return value) = refl
by_layer before (What-F.ReadUpdate buffer most got) = refl
by_layer before (What-F.Reply buffer count) = refl
by_layer before (What-F.WriteRead file buffer send room got) = refl
by_layer before (What-F.Checkpoint items files) = refl
by_layer before What-F.CheckMonitor = refl
by_layer before (What-F.Open file) = refl
by_layer before What-F.Stop = refl

statement-is : (before : List ℕ) (statement : Statement)
    → greatest (of_called before (statement ∷ [])) ≡ deepest_by before (out-What statement.what)
statement-is before statement =
    ap (λ (parts : List Statement). greatest (map (look before) (own_calls statement ++ flat_map own_calls parts)))
    (append-nil (within statement.what) ∙ within-is statement.what)
    ∙ by_layer before (out-What statement.what)

layer-is : (before : List ℕ) (statement : Statement) (layer : What-F What Statement) → statement.what ≡ roll-What layer
    → greatest (of_called before (statement ∷ [])) ≡ deepest_by before layer
layer-is before statement layer is =
    statement-is before statement ∙ ap (deepest_by before) (ap out-What is ∙ out-roll-What layer)

pub deepest-if : (before : List ℕ) (statement : Statement) (test : Cond) (first second : List Statement)
    → statement.what ≡ If test first second
    → greatest (of_called before (statement ∷ []))
    ≡ max (greatest (of_called before first)) (greatest (of_called before second))
deepest-if before statement test first second is =
    layer-is before statement (What-F.If test first second) (is ∙ sym (rolls-If test first second))

pub deepest-while : (before : List ℕ) (statement : Statement) (test : Cond) (body : List Statement)
    → statement.what ≡ While test body
    → greatest (of_called before (statement ∷ [])) ≡ greatest (of_called before body)
deepest-while before statement test body is =
    layer-is before statement (What-F.While test body) (is ∙ sym (rolls-While test body))

pub deepest-for : (before : List ℕ) (statement : Statement) (variable : Variable) (from to : Expr) (down : _) (step : _)
    (body : List Statement) (last : ℕ)
    → statement.what ≡ For variable from to down step body last
    → greatest (of_called before (statement ∷ [])) ≡ greatest (of_called before body)
deepest-for before statement variable from to down step body last is =
    layer-is before statement (What-F.For variable from to down step body last) (is
    ∙ sym (rolls-For variable from to down step body last))

pub deepest-do : (before : List ℕ) (statement : Statement) (body : List Statement) (test : Cond)
    → statement.what ≡ DoUntil body test
    → greatest (of_called before (statement ∷ [])) ≡ greatest (of_called before body)
deepest-do before statement body test is =
    layer-is before statement (What-F.DoUntil body test) (is ∙ sym (rolls-DoUntil body test))

pub one-more-statement : (before : List ℕ) (statements : List Statement) (k : ℕ) (statement : Statement)
    (found here : ℕ)
    → statement ≡ get_or statements k statement → k < length statements
    → found ≡ greatest (of_called before (take k statements))
    → here ≡ greatest (of_called before (statement ∷ []))
    → max found here ≡ greatest (of_called before (take (k + 1) statements))
one-more-statement before statements k statement found here is inside so_far here-is =
    ap₂ max so_far here-is
    ∙ sym (deepest-append before (take k statements) (statement ∷ []))
    ∙ sym (ap (λ (xs : List Statement). greatest (of_called before xs))
    (take_more statements k statement inside ∙ ap (λ (x : Statement). take k statements ++ x ∷ []) (sym is)))

-- what is looked up is one of the depths, or 0
pub looked-up : (before : List ℕ) (procedure : ℕ) → unwrap_or (slice_get before procedure) 0 ≤ greatest before
looked-up [] procedure = omega arith
looked-up (n ∷ ns) zero = omega arith
looked-up (n ∷ ns) (suc k) = let rest : unwrap_or (slice_get ns k) 0 ≤ greatest ns = looked-up ns k in omega arith

all-looked-up : (before procedures : List ℕ) → greatest (map (look before) procedures) ≤ greatest before
all-looked-up before [] = omega arith
all-looked-up before (procedure ∷ rest) =
    let first : look before procedure ≤ greatest before = looked-up before procedure in
    let others : greatest (map (look before) rest) ≤ greatest before = all-looked-up before rest in
    omega arith

pub called-at-most : (before : List ℕ) (body : List Statement) → greatest (of_called before body) ≤ greatest before
called-at-most before body = all-looked-up before (calls_of body)

-- one more procedure is at most one deeper
pub one-deeper : (before : List ℕ) (body : List Statement) (most : ℕ) → greatest before ≤ most
    → greatest (before ++ depth_from before body ∷ []) ≤ most + 1
one-deeper before body most so_far =
    let called : greatest (of_called before body) ≤ greatest before = called-at-most before body in
    let more : greatest (before ++ depth_from before body ∷ [])
    ≡ max (greatest before) (max (greatest (of_called before body) + 1) 0) =
    greatest-append before (depth_from before body ∷ []) in
    omega arith

pub one-more-procedure : (before : List ℕ) (procedures : List Procedure) (k : ℕ) (procedure : Procedure)
    (whole : List ℕ)
    → procedure ≡ get_or procedures k procedure → k < length procedures
    → in_order depth_from before (drop k procedures) ≡ whole
    → in_order depth_from (before ++ depth_from before procedure.body ∷ []) (drop (k + 1) procedures) ≡ whole
one-more-procedure before procedures k procedure whole is inside so_far =
    let next : in_order depth_from before (drop k procedures)
    ≡ in_order depth_from before (get_or procedures k procedure ∷ drop (k + 1) procedures) =
    at_drop_more (in_order depth_from before) procedures k procedure inside in
    ap (λ (p : Procedure). in_order depth_from before (p ∷ drop (k + 1) procedures)) is ∙ sym next ∙ so_far
