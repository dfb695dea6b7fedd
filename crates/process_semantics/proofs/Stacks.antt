-- A stack of entries, whose last is the next.
use Rattle.std.proofs.Common.{◌≡◌, ◌+◌, ℕ, List, [], ◌∷◌, ◌++◌, length, map, refl, ap, sym, ◌∙◌, append_assoc}
use Rattle.std.proofs.Common.{length-append}
use Rattle.std.proofs.lemmas.List.{reverse-append}
use Rattle.tal_values.specs.tal_tree.specs.Statements.{body_before, numbers_of}
use Rattle.tal_values.specs.tal_tree.specs.declared.expression.Cond.{Cond}
use Rattle.tal_values.specs.tal_tree.specs.declared.statement.Statement.{Statement}
use Rattle.tal_values.specs.tal_tree.specs.declared.statement.What.{What, What-F, DoUntil, out-What, roll-What}
use Rattle.tal_values.specs.tal_tree.specs.declared.statement.What.{roll-out-What}
use Rattle.tal_values.specs.tal_tree.specs.declared.statement.What.TheViews.{out-roll-What, rolls-DoUntil}
use Rattle.tal_values.specs.tal_tree.proofs.Numbers.{numbers-append, numbers-one}
use Rattle.process_semantics.specs.declared.entry.Entry.{Entry as Borrowed}
use Rattle.process_semantics.specs.State.{Entry, Run, runs_before, runs_of}
use Rattle.process_semantics.specs.SeenEntries.{entry_of, stack}
use Rattle.process_semantics.proofs.Rests.{behind-more}

-- the last of the entries is the next
pub stack-last : (entries : List Borrowed) (last : Borrowed)
    → stack (entries ++ last ∷ []) ≡ entry_of last ∷ stack entries
stack-last entries last = ap (map entry_of) (reverse-append entries (last ∷ []))

pub runs-append : (first second : List Statement) → runs_of (first ++ second) ≡ runs_of first ++ runs_of second
runs-append [] second = refl
runs-append (statement ∷ first) second =
    let before : List Entry = runs_before statement.what in
    ap (λ (later : List Entry). before ++ (Run statement ∷ later)) (runs-append first second)
    ∙ sym (append_assoc before (Run statement ∷ runs_of first) (runs_of second))

-- the last of some statements before others
pub runs-last : (front : List Statement) (last : Statement) (rest : List Entry)
    → runs_of (front ++ last ∷ []) ++ rest
    ≡ runs_of front ++ (runs_of (body_before (out-What last.what)) ++ (Run last ∷ rest))
runs-last front last rest =
    ap (λ (entries : List Entry). entries ++ rest) (runs-append front (last ∷ []))
    ∙ append_assoc (runs_of front) (runs_of (last ∷ [])) rest
    ∙ ap (λ (entries : List Entry). runs_of front ++ entries) (behind-more last [] rest)

-- How many numbers statements have

-- some statements with one behind them
pub numbers-last : (front : List Statement) (last : Statement) → length (numbers_of (front ++ last ∷ []))
    ≡ length (numbers_of front) + length (numbers_of (last ∷ []))
numbers-last front last =
    ap length (numbers-append front (last ∷ [])) ∙ length-append (numbers_of front) (numbers_of (last ∷ []))

do-layer : (what : What) (body : List Statement) (test : Cond) → what ≡ DoUntil body test
    → out-What what ≡ What-F.DoUntil body test
do-layer what body test is =
    ap out-What (is ∙ sym (rolls-DoUntil body test)) ∙ out-roll-What (What-F.DoUntil body test)

-- a DO: its body comes before it, and has one number fewer
pub before-do : (statement : Statement) (body : List Statement) (test : Cond) → statement.what ≡ DoUntil body test
    → body_before (out-What statement.what) ≡ body
before-do statement body test is = ap body_before (do-layer statement.what body test is)

-- no other statement has a body that is done before it
pub before-other : (what : What) → ((body : List Statement) (test : Cond) → what ≡ DoUntil body test → ⊥)
    → body_before (out-What what) ≡ []
before-other what never = by-kind (out-What what) refl
  where
    by-kind : (layer : What-F What Statement) → out-What what ≡ layer → body_before layer ≡ []
    by-kind (What-F.DoUntil body test) is =
        absurd (never body test (sym (roll-out-What what) ∙ ap roll-What is ∙ rolls-DoUntil body test))
    by-kind _ is = refl

pub numbers-do : (statement : Statement) (body : List Statement) (test : Cond) → statement.what ≡ DoUntil body test
    → length (numbers_of (statement ∷ [])) ≡ length (numbers_of body) + 1
numbers-do statement body test is =
    ap length (numbers-one statement.number statement.line statement.what (What-F.DoUntil body test)
    (do-layer statement.what body test is))
    ∙ length-append (numbers_of body) (statement.number ∷ [])
