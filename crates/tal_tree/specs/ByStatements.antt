-- Induction over lists of statements, one layer at a time: what holds of the lists inside each statement and of those
-- behind it holds of all.
use Rattle.std.specs.Prelude.{◌≡◌, List, [], ◌∷◌, refl}
use mathlib.Core.Path.{ap, subst, sym, ◌∙◌}
use mathlib.Core.Former.{this, arity}
use Rattle.gd_words.specs.formers.list.List as list
use Rattle.tal_tree.specs.Rows.{places, rows, if-is, while-is, for-is, do-is}
use Rattle.tal_tree.specs.Statements.{body_before}
use Rattle.tal_tree.specs.declared.statement.Statement.{Statement}
use Rattle.tal_tree.specs.declared.statement.What.{What, What-F, out-What, roll-What, Assign, AssignCall, If', While'}
use Rattle.tal_tree.specs.declared.statement.What.{For', DoUntil', Call, Return, ReadUpdate, Reply, WriteRead}
use Rattle.tal_tree.specs.declared.statement.What.{Checkpoint, CheckMonitor, Open, Stop, Row_of-Statement}
use Rattle.tal_tree.specs.declared.statement.What.{end_of-Statement}
use Rattle.tal_tree.specs.declared.statement.What.{more_of-Statement}
use Rattle.tal_tree.specs.declared.statement.What.TheViews.{out-roll-What, rolls-Assign, rolls-AssignCall, rolls-If}
use Rattle.tal_tree.specs.declared.statement.What.TheViews.{rolls-While, rolls-For, rolls-DoUntil, rolls-Call}
use Rattle.tal_tree.specs.declared.statement.What.TheViews.{rolls-Return, rolls-ReadUpdate, rolls-Reply}
use Rattle.tal_tree.specs.declared.statement.What.TheViews.{rolls-WriteRead}
use Rattle.tal_tree.specs.declared.statement.What.TheViews.{rolls-Checkpoint, rolls-CheckMonitor, rolls-Open}
use Rattle.tal_tree.specs.declared.statement.What.TheViews.{rolls-Stop}

-- P holds of each list of statements that stands directly in a statement
abbrev pub HoldsInside : (List Statement → Type 0) → What-F What Statement → Type 0
HoldsInside P (What-F.If test first second) = P first × P second
HoldsInside P (What-F.While test body) = P body
HoldsInside P (What-F.For variable from to down step body last) = P body
HoldsInside P (What-F.DoUntil body test) = P body
HoldsInside P (What-F.Assign to value) = Unit {0}
HoldsInside P (What-F.AssignCall to procedure arguments) = Unit {0}
HoldsInside P (What-F.Call procedure arguments) = Unit {0}
HoldsInside P (What-F.Return value) = Unit {0}
HoldsInside P (What-F.ReadUpdate buffer most got) = Unit {0}
HoldsInside P (What-F.Reply buffer count) = Unit {0}
HoldsInside P (What-F.WriteRead file buffer send room got) = Unit {0}
HoldsInside P (What-F.Checkpoint items files) = Unit {0}
HoldsInside P What-F.CheckMonitor = Unit {0}
HoldsInside P (What-F.Open file) = Unit {0}
HoldsInside P What-F.Stop = Unit {0}

-- so it holds of the body that is done before a statement's own number, where it holds of no statements
pub holds-before : (P : List Statement → Type 0) → P [] → (layer : What-F What Statement) → HoldsInside P layer
    → P (body_before layer)
holds-before P none (What-F.DoUntil body test) holds = holds
holds-before P none (What-F.Assign _ _) holds = none
holds-before P none (What-F.AssignCall _ _ _) holds = none
holds-before P none (What-F.If _ _ _) holds = none
holds-before P none (What-F.While _ _) holds = none
holds-before P none (What-F.For _ _ _ _ _ _ _) holds = none
holds-before P none (What-F.Call _ _) holds = none
holds-before P none (What-F.Return _) holds = none
holds-before P none (What-F.ReadUpdate _ _ _) holds = none
holds-before P none (What-F.Reply _ _) holds = none
holds-before P none (What-F.WriteRead _ _ _ _ _) holds = none
holds-before P none (What-F.Checkpoint _ _) holds = none
holds-before P none What-F.CheckMonitor holds = none
holds-before P none (What-F.Open _) holds = none
holds-before P none What-F.Stop holds = none

-- P holds of no statements, and of more where it holds inside the first and of the rest
pub record IsInductive (P : List Statement → Type 0) : Type 0 where
  pub none : P []
  pub more : (statement : Statement) (rest : List Statement) → HoldsInside P (out-What statement.what) → P rest
      → P (statement ∷ rest)

-- the list of a row
abbrev listed : {n : _} → Row_of-Statement n → List Statement
listed end_of-Statement = []
listed (more_of-Statement number line what rest) = record { number = number; line = line; what = what } ∷ listed rest

abbrev Hidden : Type 0
Hidden = (shape : List (Unit {0})) × Row_of-Statement (arity (list.the_former (this {0})) shape)

row-again : (shape : List (Unit {0})) (row : Row_of-Statement (arity (list.the_former (this {0})) shape))
    → ◌≡◌ {A = Hidden} (places (listed row), rows (listed row)) (shape, row)
row-again [] end_of-Statement = refl
row-again (one ∷ shape) (more_of-Statement number line what rest) =
    λ i. (tt ∷ (row-again shape rest i).0, more_of-Statement number line what (row-again shape rest i).1)

list-again : (statements : List Statement) → listed (rows statements) ≡ statements
list-again [] = refl
list-again (statement ∷ rest) = ap (λ (later : List Statement). statement ∷ later) (list-again rest)

by-layer : (P : List Statement → Type 0) (what : What) (layer : What-F What Statement) → roll-What layer ≡ what
    → HoldsInside P layer → HoldsInside P (out-What what)
by-layer P what layer is holds = subst (HoldsInside P) (sym (out-roll-What layer) ∙ ap out-What is) holds

module _ (P : List Statement → Type 0) (steps : IsInductive P) where
  mutual
    by-row : {n : _} (row : Row_of-Statement n) → P (listed row)
    by-row end_of-Statement = steps.none
    by-row (more_of-Statement number line what rest) =
        steps.more (record { number = number; line = line; what = what }) (listed rest) (by-what what) (by-row rest)

    by-what : (what : What) → HoldsInside P (out-What what)
    by-what (If' test s first t second) =
        by-layer P (If' test s first t second) (What-F.If test (listed first) (listed second))
        (rolls-If test (listed first) (listed second) ∙ if-is test (listed first) (listed second)
        ∙ (λ i. If' test (row-again s first i).0 (row-again s first i).1 (row-again t second i).0
        (row-again t second i).1))
        (by-row first, by-row second)
    by-what (While' test s body) =
        by-layer P (While' test s body) (What-F.While test (listed body))
        (rolls-While test (listed body) ∙ while-is test (listed body)
        ∙ (λ i. While' test (row-again s body i).0 (row-again s body i).1)) (by-row body)
    by-what (For' variable from to down step s body last) =
        by-layer P (For' variable from to down step s body last)
        (What-F.For variable from to down step (listed body) last)
        (rolls-For variable from to down step (listed body) last ∙ for-is variable from to down step (listed body) last
        ∙ (λ i. For' variable from to down step (row-again s body i).0 (row-again s body i).1 last)) (by-row body)
    by-what (DoUntil' s body test) =
        by-layer P (DoUntil' s body test) (What-F.DoUntil (listed body) test)
        (rolls-DoUntil (listed body) test ∙ do-is (listed body) test
        ∙ (λ i. DoUntil' (row-again s body i).0 (row-again s body i).1 test)) (by-row body)
    by-what (Assign to value) = by-layer P _ (What-F.Assign to value) (rolls-Assign to value) tt
    by-what (AssignCall to procedure arguments) =
        by-layer P _ (What-F.AssignCall to procedure arguments) (rolls-AssignCall to procedure arguments) tt
    by-what (Call procedure arguments) =
        by-layer P _ (What-F.Call procedure arguments) (rolls-Call procedure arguments) tt
    by-what (Return value) = by-layer P _ (What-F.Return value) (rolls-Return value) tt
    by-what (ReadUpdate buffer most got) =
        by-layer P _ (What-F.ReadUpdate buffer most got) (rolls-ReadUpdate buffer most got) tt
    by-what (Reply buffer count) = by-layer P _ (What-F.Reply buffer count) (rolls-Reply buffer count) tt
    by-what (WriteRead file buffer send room got) =
        by-layer P _ (What-F.WriteRead file buffer send room got) (rolls-WriteRead file buffer send room got) tt
    by-what (Checkpoint items files) = by-layer P _ (What-F.Checkpoint items files) (rolls-Checkpoint items files) tt
    by-what CheckMonitor = by-layer P _ What-F.CheckMonitor rolls-CheckMonitor tt
    by-what (Open file) = by-layer P _ (What-F.Open file) (rolls-Open file) tt
    by-what Stop = by-layer P _ What-F.Stop rolls-Stop tt

  -- what is inductive holds of all statements
  pub by-statements : (statements : List Statement) → P statements
  by-statements statements = subst P (list-again statements) (by-row (rows statements))
