-- Where few wait while statements compute what they do, few wait in each part of them.
use Rattle.std.proofs.Common.{◌≡◌, inl, inr, ℕ, ℤ, Bool, zero, suc, ◌<◌, ◌≤◌, List, [], ◌∷◌, get_or, slice_get, length}
use Rattle.std.proofs.Common.{Some}
use Rattle.std.proofs.Common.{refl, ap, subst, sym, ◌∙◌, arith}
use Rattle.std.proofs.lemmas.Option.{slice_get-get_or}
use Rattle.std.specs.Prelude.{max}
use Rattle.gd_words.specs.Members.{IsAmong}
use Rattle.gd_words.proofs.Among.{among-left, among-right, among-given}
use Rattle.tal_tree.specs.Statements.{all_in, all_of}
use Rattle.tal_tree.proofs.Within.{within_of, within-is}
use Rattle.tal_tree.specs.declared.expression.Cond.{Cond}
use Rattle.tal_tree.specs.declared.expression.Expr.{Expr}
use Rattle.tal_tree.specs.declared.expression.Variable.{Variable}
use Rattle.tal_tree.specs.declared.expression.Variable.TheVariants as variable
use Rattle.tal_tree.specs.declared.statement.Statement.{Statement}
use Rattle.tal_tree.specs.declared.statement.What.{What, What-F, If, While, For, DoUntil, out-What}
use Rattle.tal_tree.specs.declared.statement.What.TheViews.{rolls-If, rolls-While, rolls-For, rolls-DoUntil}
use Rattle.process_semantics.specs.tal_values.specs.Spots.{spot_of}
use Rattle.tal_code.specs.Waiting.{waiting_of, waiting_of_spot, waiting_for, waiting_of_test, waiting_of_all}
use Rattle.tal_code.specs.Waiting.{waiting_at}
use Rattle.tal_table.specs.Loads.{FewWait}
use Rattle.tal_table.proofs.Nodes.{layer-is}
use Rattle.tal_table.proofs.Small.{place-among}

pub few-at : (statements : List Statement) (k : ℕ) (statement : Statement) → statement ≡ get_or statements k statement
    → k < length statements
    → FewWait (all_of statements) → FewWait (all_in statement)
few-at statements k statement is within few =
    λ s among. few s (among-given all_in statement s statements (place-among statements k statement is within) among)

module _ (statement : Statement) (few : FewWait (all_in statement)) where
  pub few-own : waiting_at (out-What statement.what) < 80
  few-own = few statement (inl refl)

  own-of : (layer : What-F What Statement) → out-What statement.what ≡ layer → waiting_at layer < 80
  own-of layer is = subst (λ (l : What-F What Statement). waiting_at l < 80) is few-own

  inside-of : (layer : What-F What Statement) → out-What statement.what ≡ layer → FewWait (within_of layer)
  inside-of layer is =
      λ s among. few s (inr (subst (IsAmong s) (sym (within-is statement.what ∙ ap within_of is)) among))

  module _ (test : Cond) (body : List Statement) (is : statement.what ≡ While test body) where
    layer-while : out-What statement.what ≡ What-F.While test body
    layer-while = layer-is statement.what (What-F.While test body) (rolls-While test body ∙ sym is)

    pub test-while : waiting_of_test test < 80
    test-while = own-of (What-F.While test body) layer-while

    pub few-while : FewWait (all_of body)
    few-while = inside-of (What-F.While test body) layer-while

  module _ (test : Cond) (ones others : List Statement) (is : statement.what ≡ If test ones others) where
    layer-if : out-What statement.what ≡ What-F.If test ones others
    layer-if = layer-is statement.what (What-F.If test ones others) (rolls-If test ones others ∙ sym is)

    pub test-if : waiting_of_test test < 80
    test-if = own-of (What-F.If test ones others) layer-if

    pub few-first : FewWait (all_of ones)
    few-first = λ s among. inside-of (What-F.If test ones others) layer-if s
        (among-left s (all_of ones) (all_of others) among)

    pub few-second : FewWait (all_of others)
    few-second =
        λ s among. inside-of (What-F.If test ones others) layer-if s (among-right s (all_of ones) (all_of others) among)

  module _ (variable : Variable) (from to : Expr) (down : Bool) (step : ℤ) (body : List Statement) (last : ℕ)
      (is : statement.what ≡ For variable from to down step body last) where
    layer-for : out-What statement.what ≡ What-F.For variable from to down step body last
    layer-for = layer-is statement.what (What-F.For variable from to down step body last)
        (rolls-For variable from to down step body last ∙ sym is)

    both-for : max (waiting_of from) (waiting_for to) < 80
    both-for = own-of (What-F.For variable from to down step body last) layer-for

    pub from-for : waiting_of from < 80
    from-for = omega (arith, both-for)

    pub to-for : waiting_for to < 80
    to-for = omega (arith, both-for)

    pub few-for : FewWait (all_of body)
    few-for = inside-of (What-F.For variable from to down step body last) layer-for

  module _ (body : List Statement) (test : Cond) (is : statement.what ≡ DoUntil body test) where
    layer-do : out-What statement.what ≡ What-F.DoUntil body test
    layer-do = layer-is statement.what (What-F.DoUntil body test) (rolls-DoUntil body test ∙ sym is)

    pub test-do : waiting_of_test test < 80
    test-do = own-of (What-F.DoUntil body test) layer-do

    pub few-do : FewWait (all_of body)
    few-do = inside-of (What-F.DoUntil body test) layer-do

-- each of some waits no more than all
pub waits-at : (values : List Expr) (k : ℕ) (value : Expr) → slice_get values k ≡ Some value
    → waiting_of value ≤ waiting_of_all values
waits-at [] k value there = absurd (cc there)
waits-at (first ∷ rest) zero value there = let same : first ≡ value = cc there in omega (arith, ap waiting_of same)
waits-at (first ∷ rest) (suc k) value there = omega (arith, waits-at rest k value there)

pub waits-each : (values : List Expr) (k : ℕ) (value : Expr) → value ≡ get_or values k value → k < length values
    → waiting_of value ≤ waiting_of_all values
waits-each values k value is within =
    waits-at values k value (slice_get-get_or values k value within ∙ ap (λ (v : Expr). Some v) (sym is))

-- none waits for a variable
pub variable-waits : (v : Variable) → waiting_of_spot (spot_of v) ≡ 0
variable-waits (variable.Local place) = refl
variable-waits (variable.Simple item) = refl
