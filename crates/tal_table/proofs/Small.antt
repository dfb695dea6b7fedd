-- The numbers of the parts of statements: each is small where those of the whole are, and the whole has more of them.
use Rattle.std.proofs.Common.{◌≡◌, inl, inr, ℕ, ℤ, Bool, ◌+◌, ◌≤◌, ◌<◌, List, [], ◌∷◌, ◌++◌, get_or, length}
use Rattle.std.proofs.Common.{length-append, append_assoc, refl, ap, ap₂, subst, sym, ◌∙◌, arith}
use Rattle.std.proofs.lemmas.Option.{slice_get-get_or}
use Rattle.std.specs.Prelude.{Some}
use Rattle.gd_words.specs.Members.{IsAmong}
use Rattle.gd_words.proofs.Among.{among-left, among-right, among-at, among-given}
use Rattle.tal_tree.specs.Ordered.{numbers_in_all}
use Rattle.tal_tree.specs.Statements.{numbers_before, numbers_within, numbers_of}
use Rattle.tal_tree.proofs.Numbers.{numbers_by, before-is, inside-is}
use Rattle.tal_tree.specs.declared.expression.Cond.{Cond}
use Rattle.tal_tree.specs.declared.expression.Expr.{Expr}
use Rattle.tal_tree.specs.declared.expression.Variable.{Variable}
use Rattle.tal_tree.specs.declared.program.Procedure.{Procedure}
use Rattle.tal_tree.specs.declared.statement.Statement.{Statement}
use Rattle.tal_tree.specs.declared.statement.What.{What, What-F, If, While, For, DoUntil, out-What}
use Rattle.tal_tree.specs.declared.statement.What.TheViews.{rolls-If, rolls-While, rolls-For, rolls-DoUntil}
use Rattle.tal_table.specs.Loads.{AreSmall, numbers_at}
use Rattle.tal_table.proofs.Nodes.{layer-is}

-- the one that stands at a place is among them
pub place-among : {A : Type 0} (xs : List A) (k : ℕ) (x : A) → x ≡ get_or xs k x → k < length xs → IsAmong x xs
place-among {A} xs k x is within = among-at xs k x (slice_get-get_or xs k x within ∙ ap (λ (y : A). Some y) (sym is))

-- those of the first, and of the others
first-numbers : (first : Statement) (more : List Statement)
    → numbers_of (first ∷ more) ≡ numbers_at first ++ numbers_of more
first-numbers first more =
    sym (append_assoc (numbers_before first.what) (first.number ∷ numbers_within first.number first.what)
    (numbers_of more))

own-among : (statement : Statement) (statements : List Statement) (n : ℕ) → IsAmong statement statements
    → IsAmong n (numbers_at statement) → IsAmong n (numbers_of statements)
own-among statement [] n among own = absurd among
own-among statement (first ∷ more) n (inl same) own =
    subst (IsAmong n) (sym (first-numbers first more))
    (among-left n (numbers_at first) (numbers_of more) (subst (λ (s : Statement). IsAmong n (numbers_at s)) same own))
own-among statement (first ∷ more) n (inr among) own =
    subst (IsAmong n) (sym (first-numbers first more))
    (among-right n (numbers_at first) (numbers_of more) (own-among statement more n among own))

pub small-at : (statements : List Statement) (k : ℕ) (statement : Statement)
    → statement ≡ get_or statements k statement → k < length statements
    → AreSmall (numbers_of statements) → AreSmall (numbers_at statement)
small-at statements k statement is within small =
    λ n among. small n (own-among statement statements n (place-among statements k statement is within) among)

pub small-body : (procedures : List Procedure) (k : ℕ) (procedure : Procedure)
    → procedure ≡ get_or procedures k procedure → k < length procedures
    → AreSmall (numbers_in_all procedures) → AreSmall (numbers_of procedure.body)
small-body procedures k procedure is within small = λ n among.
    small n (among-given (λ (p : Procedure). numbers_of p.body) procedure n procedures
    (place-among procedures k procedure is within) among)

-- How many there are

count-among : (statement : Statement) (statements : List Statement) → IsAmong statement statements
    → length (numbers_at statement) ≤ length (numbers_of statements)
count-among statement [] among = absurd among
count-among statement (first ∷ more) (inl same) =
    let whole : length (numbers_of (first ∷ more)) ≡ length (numbers_at first) + length (numbers_of more) =
    ap length (first-numbers first more) ∙ length-append (numbers_at first) (numbers_of more) in
    let equal : length (numbers_at statement) ≡ length (numbers_at first) =
    ap (λ (s : Statement). length (numbers_at s)) same in
    omega arith
count-among statement (first ∷ more) (inr among) =
    let whole : length (numbers_of (first ∷ more)) ≡ length (numbers_at first) + length (numbers_of more) =
    ap length (first-numbers first more) ∙ length-append (numbers_at first) (numbers_of more) in
    let later : length (numbers_at statement) ≤ length (numbers_of more) = count-among statement more among in
    omega arith

pub count-at : (statements : List Statement) (k : ℕ) (statement : Statement)
    → statement ≡ get_or statements k statement → k < length statements
    → length (numbers_at statement) ≤ length (numbers_of statements)
count-at statements k statement is within =
    count-among statement statements (place-among statements k statement is within)

module _ (statement : Statement) where
  -- by the layer of a statement
  by-kind : (layer : What-F What Statement) → out-What statement.what ≡ layer
      → numbers_at statement ≡ numbers_by statement.number layer
  by-kind layer is =
      ap₂ (λ (before inner : List ℕ). before ++ (statement.number ∷ inner)) (before-is statement.what)
      (inside-is statement.number statement.what)
      ∙ ap (numbers_by statement.number) is

  count-by : (layer : What-F What Statement) → out-What statement.what ≡ layer
      → length (numbers_at statement) ≡ length (numbers_by statement.number layer)
  count-by layer is = ap length (by-kind layer is)

  pub count-while : (test : Cond) (body : List Statement) → statement.what ≡ While test body
      → length (numbers_at statement) ≡ length (numbers_of body) + 1
  count-while test body is =
      let whole = count-by (What-F.While test body)
      (layer-is statement.what (What-F.While test body) (rolls-While test body ∙ sym is)) in
      omega (arith, whole)

  pub count-if : (test : Cond) (ones others : List Statement) → statement.what ≡ If test ones others
      → length (numbers_at statement) ≡ length (numbers_of ones) + length (numbers_of others) + 1
  count-if test ones others is =
      let whole = count-by (What-F.If test ones others)
      (layer-is statement.what (What-F.If test ones others) (rolls-If test ones others ∙ sym is)) in
      let parts : length (numbers_of ones ++ numbers_of others)
      ≡ length (numbers_of ones) + length (numbers_of others) =
      length-append (numbers_of ones) (numbers_of others) in
      omega (arith, whole, parts)

  pub count-for : (variable : Variable) (from to : Expr) (down : Bool) (step : ℤ) (body : List Statement) (last : ℕ)
      → statement.what ≡ For variable from to down step body last
      → length (numbers_at statement) ≡ length (numbers_of body) + 3
  count-for variable from to down step body last is =
      let whole = count-by (What-F.For variable from to down step body last)
      (layer-is statement.what (What-F.For variable from to down step body last)
      (rolls-For variable from to down step body last ∙ sym is)) in
      let parts : length (numbers_of body ++ last ∷ []) ≡ length (numbers_of body) + 1 =
      length-append (numbers_of body) (last ∷ []) in
      omega (arith, whole, parts)

  pub count-do : (body : List Statement) (test : Cond) → statement.what ≡ DoUntil body test
      → length (numbers_at statement) ≡ length (numbers_of body) + 1
  count-do body test is =
      let whole = count-by (What-F.DoUntil body test)
      (layer-is statement.what (What-F.DoUntil body test) (rolls-DoUntil body test ∙ sym is)) in
      let parts : length (numbers_of body ++ statement.number ∷ []) ≡ length (numbers_of body) + 1 =
      length-append (numbers_of body) (statement.number ∷ []) in
      omega (arith, whole, parts)

-- How great they are

module _ (statement : Statement) (small : AreSmall (numbers_at statement)) where
  small-by : (layer : What-F What Statement) → out-What statement.what ≡ layer
      → AreSmall (numbers_by statement.number layer)
  small-by layer is = subst AreSmall (by-kind statement layer is) small

  pub small-own : statement.number ≤ 2000
  small-own = small statement.number (among-right statement.number (numbers_before statement.what)
      (statement.number ∷ numbers_within statement.number statement.what) (inl refl))

  pub small-while : (test : Cond) (body : List Statement) → statement.what ≡ While test body
      → AreSmall (numbers_of body)
  small-while test body is = λ n among.
      small-by (What-F.While test body)
      (layer-is statement.what (What-F.While test body) (rolls-While test body ∙ sym is)) n (inr among)

  both : (test : Cond) (ones others : List Statement) → statement.what ≡ If test ones others
      → AreSmall (numbers_of ones ++ numbers_of others)
  both test ones others is = λ n among.
      small-by (What-F.If test ones others)
      (layer-is statement.what (What-F.If test ones others) (rolls-If test ones others ∙ sym is)) n (inr among)

  pub small-first : (test : Cond) (ones others : List Statement) → statement.what ≡ If test ones others
      → AreSmall (numbers_of ones)
  small-first test ones others is =
      λ n among. both test ones others is n (among-left n (numbers_of ones) (numbers_of others) among)

  pub small-second : (test : Cond) (ones others : List Statement) → statement.what ≡ If test ones others
      → AreSmall (numbers_of others)
  small-second test ones others is =
      λ n among. both test ones others is n (among-right n (numbers_of ones) (numbers_of others) among)

  pub small-for : (variable : Variable) (from to : Expr) (down : Bool) (step : ℤ) (body : List Statement) (last : ℕ)
      → statement.what ≡ For variable from to down step body last → AreSmall (numbers_of body)
  small-for variable from to down step body last is = λ n among.
      small-by (What-F.For variable from to down step body last)
      (layer-is statement.what (What-F.For variable from to down step body last)
      (rolls-For variable from to down step body last ∙ sym is)) n
      (inr (inr (among-left n (numbers_of body) (last ∷ []) among)))

  pub small-do : (body : List Statement) (test : Cond) → statement.what ≡ DoUntil body test
      → AreSmall (numbers_of body)
  small-do body test is = λ n among.
      small-by (What-F.DoUntil body test)
      (layer-is statement.what (What-F.DoUntil body test) (rolls-DoUntil body test ∙ sym is)) n
      (among-left n (numbers_of body) (statement.number ∷ []) among)
