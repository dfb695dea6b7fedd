-- The entries of statements by their layers, and over more and more of a list.
use Rattle.std.proofs.Common.{◌≡◌, ℕ, ℤ, Bool, ◌+◌, ◌<◌, List, [], ◌∷◌, ◌++◌, length, take, get_or, refl, ap, sym, ◌∙◌}
use Rattle.std.proofs.Common.{append_assoc, append-nil}
use Rattle.std.proofs.lemmas.List.{take_more}
use Rattle.process_semantics.specs.State.{Entry, Run, Test, Last}
use Rattle.tal_tree.specs.Rows.{if-is, while-is, for-is, do-is}
use Rattle.tal_tree.specs.declared.expression.Cond.{Cond}
use Rattle.tal_tree.specs.declared.expression.Expr.{Expr}
use Rattle.tal_tree.specs.declared.expression.Variable.{Variable}
use Rattle.tal_tree.specs.declared.statement.Statement.{Statement}
use Rattle.tal_tree.specs.declared.statement.What.{If, While, For, DoUntil}
use Rattle.program_entries.specs.Entries.{entries_before, entries_in, entries_within}

module _ (self : Statement) where
  pub entries-if : (test : Cond) (first second : List Statement)
      → entries_within self (If test first second) ≡ entries_in first ++ entries_in second
  entries-if test first second = ap (entries_within self) (if-is test first second)

  pub entries-while : (test : Cond) (body : List Statement)
      → entries_within self (While test body) ≡ entries_in body
  entries-while test body = ap (entries_within self) (while-is test body)

  pub entries-for : (variable : Variable) (from to : Expr) (down : Bool) (step : ℤ) (body : List Statement) (last : ℕ)
      → entries_within self (For variable from to down step body last) ≡ Test self ∷ entries_in body ++ Last self ∷ []
  entries-for variable from to down step body last =
      ap (entries_within self) (for-is variable from to down step body last)

pub entries-do : (body : List Statement) (test : Cond) → entries_before (DoUntil body test) ≡ entries_in body
entries-do body test = ap entries_before (do-is body test)

entries-append : (first second : List Statement) → entries_in (first ++ second) ≡ entries_in first ++ entries_in second
entries-append [] second = refl
entries-append (statement ∷ first) second =
    let before : List Entry = entries_before statement.what in
    let own : List Entry = Run statement ∷ entries_within statement statement.what in
    ap (λ (later : List Entry). before ++ (own ++ later)) (entries-append first second)
    ∙ ap (λ (later : List Entry). before ++ later) (sym (append_assoc own (entries_in first) (entries_in second)))
    ∙ sym (append_assoc before (own ++ entries_in first) (entries_in second))

-- the entries of one statement more
pub one-more : (statements : List Statement) (k : ℕ) (statement : Statement)
    → statement ≡ get_or statements k statement → k < length statements
    → entries_in (take (k + 1) statements) ≡ entries_in (take k statements)
    ++ (entries_before statement.what ++ (Run statement ∷ entries_within statement statement.what))
one-more statements k statement is inside =
    ap entries_in (take_more statements k statement inside
    ∙ ap (λ (x : Statement). take k statements ++ x ∷ []) (sym is))
    ∙ entries-append (take k statements) (statement ∷ [])
    ∙ ap (λ (own : List Entry). entries_in (take k statements) ++ (entries_before statement.what ++ own))
    (append-nil (Run statement ∷ entries_within statement statement.what))
