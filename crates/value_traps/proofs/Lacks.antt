-- A trap is met exactly where there is no value.
use Rattle.std.proofs.Common.{◌≡◌, ℕ, ℤ, pos, neg_ℤ, Bool, true, false, not, Option, Some, None, refl, ap, sym, ◌∙◌}
use Rattle.std.proofs.Common.{Ok, Err, ok_or, option_map, option_and_then, slice_get, IsSome}
use Rattle.std.specs.Ordering.{int_eq}
use Rattle.std.specs.Result.{result_err, result_ok}
use Rattle.tal_tree.specs.gd_words.specs.Arithmetic.{wrap}
use Rattle.tal_tree.specs.declared.expression.Cond.{Cond, Truth, Compare, Not', And', Or', Row_of-Cond}
use Rattle.tal_tree.specs.declared.expression.Cond.{end_of-Cond, more_of-Cond}
use Rattle.tal_tree.specs.declared.expression.Expr.{Expr, Number, Read', Minus', Two', Row_of-Spot}
use Rattle.tal_tree.specs.declared.expression.Expr.{end_of-Spot, more_of-Spot, Row_of-Expr}
use Rattle.tal_tree.specs.declared.expression.Expr.{end_of-Expr, more_of-Expr}
use Rattle.tal_tree.specs.declared.expression.Spot.{Spot, Local, Simple, Element}
use Rattle.tal_tree.specs.declared.program.Item.{Item}
use Rattle.tal_tree.specs.declared.program.Shape.{Shape}
use Rattle.tal_tree.specs.declared.program.Shape.TheVariants as shape
use Rattle.tal_values.specs.Value as value
use Rattle.tal_values.specs.Value.{Memory, and_of, both, cell_of, holds, or_of, place_in, place_of, result_of, truth_of}
use Rattle.tal_values.specs.Value.{value_of, word_at}
use Rattle.tal_values.specs.declared.memory.Cell.TheVariants as cell
use Rattle.value_traps.specs.Traps.{Worked, and_or_trap, cell_or_trap, made, of_both, or_or_trap, place_at}
use Rattle.value_traps.specs.Traps.{place_or_trap}
use Rattle.value_traps.specs.Traps.{place_worked, quotient_or_trap, spot_in, trap_of, truth_in, truth_or_trap, value_in}
use Rattle.value_traps.specs.Traps.{value_or_trap, word_or_trap, worked_on}
use Rattle.value_traps.specs.declared.trap.ValueTrap.{ValueTrap}
use Rattle.value_traps.specs.declared.trap.ValueTrap.TheVariants.{Index, NotThere, ZeroDivisor}

pub found : {A : Type 0} (x : Option A) (trap : ValueTrap) → result_ok (ok_or x trap) ≡ x
found None trap = refl
found (Some x) trap = refl

made-ok : {A B : Type 0} (f : A → B) (x : Worked A) (y : Option A) → result_ok x ≡ y
    → result_ok (made f x) ≡ option_map f y
made-ok f (Err trap) y is = ap (option_map f) is
made-ok f (Ok x) y is = ap (option_map f) is

worked-ok : {A B : Type 0} (f : A → Worked B) (g : A → Option B) (x : Worked A) (y : Option A)
    → ((a : A) → result_ok (f a) ≡ g a) → result_ok x ≡ y → result_ok (worked_on f x) ≡ option_and_then g y
worked-ok f g (Err trap) y each is = ap (option_and_then g) is
worked-ok f g (Ok x) y each is = each x ∙ ap (option_and_then g) is

both-ok : {A B : Type 0} (f : A → A → Worked B) (g : A → A → Option B) (x y : Worked A) (p q : Option A)
    → ((a b : A) → result_ok (f a b) ≡ g a b) → result_ok x ≡ p → result_ok y ≡ q
    → result_ok (of_both f x y) ≡ both g p q
both-ok f g (Err trap) y p q each first second = λ i. both g (first i) (second i)
both-ok f g (Ok x) (Err trap) p q each first second = λ i. both g (first i) (second i)
both-ok f g (Ok x) (Ok y) p q each first second = each x y ∙ (λ i. both g (first i) (second i))

place-ok : (s : Shape) (index : ℤ) → result_ok (place_or_trap s index) ≡ place_in s index
place-ok (shape.Array low high) index = found (place_in (shape.Array low high) index) (Index index low high)
place-ok shape.Simple index = refl
place-ok (shape.File target) index = refl

place-there : (item : Option Item) (index : ℤ)
    → result_ok (place_at item index) ≡ option_and_then (λ i. place_in i.shape index) item
place-there None index = refl
place-there (Some item) index = place-ok item.shape index

place-worked : (m : Memory) (item : ℕ) (index : ℤ) → result_ok (place_worked m item index) ≡ place_of m item index
place-worked m item index = place-there (slice_get m.items item) index

mutual
  pub value-ok : (m : Memory) (e : Expr) → result_ok (value_or_trap m e) ≡ value_of m e
  value-ok m (Number n) = refl
  value-ok m (Read' _ row) = spot-ok m row
  value-ok m (Minus' _ row) = made-ok (λ x. wrap (neg_ℤ x)) (value_in m row) (value.value_in m row) (row-ok m row)
  value-ok m (Two' op _ first _ second) =
      both-ok (quotient_or_trap op) (result_of op) (value_in m first) (value_in m second) (value.value_in m first)
      (value.value_in m second) (λ x y. found (result_of op x y) ZeroDivisor) (row-ok m first) (row-ok m second)

  pub cell-ok : (m : Memory) (spot : Spot) → result_ok (cell_or_trap m spot) ≡ cell_of m spot
  cell-ok m (Local k) = refl
  cell-ok m (Simple item) = refl
  cell-ok m (Element item index) =
      made-ok (cell.Global item) (worked_on (place_worked m item) (value_or_trap m index))
      (option_and_then (place_of m item) (value_of m index))
      (worked-ok (place_worked m item) (place_of m item) (value_or_trap m index) (value_of m index)
      (place-worked m item) (value-ok m index))

  spot-ok : {n : _} (m : Memory) (row : Row_of-Spot n) → result_ok (spot_in m row) ≡ value.spot_in m row
  spot-ok m end_of-Spot = refl
  spot-ok m (more_of-Spot spot _) =
      worked-ok (word_or_trap m) (word_at m) (cell_or_trap m spot) (cell_of m spot) (λ c. found (word_at m c) NotThere)
      (cell-ok m spot)

  row-ok : {n : _} (m : Memory) (row : Row_of-Expr n) → result_ok (value_in m row) ≡ value.value_in m row
  row-ok m end_of-Expr = refl
  row-ok m (more_of-Expr expr _) = value-ok m expr

and-ok : (x y : Worked Bool) (p q : Option Bool) → result_ok x ≡ p → result_ok y ≡ q
    → result_ok (and_or_trap x y) ≡ and_of p q
and-ok (Err trap) y p q first second = λ i. and_of (first i) (second i)
and-ok (Ok false) y p q first second = λ i. and_of (first i) (second i)
and-ok (Ok true) y p q first second = second ∙ (λ i. and_of (first i) q)

or-ok : (x y : Worked Bool) (p q : Option Bool) → result_ok x ≡ p → result_ok y ≡ q
    → result_ok (or_or_trap x y) ≡ or_of p q
or-ok (Err trap) y p q first second = λ i. or_of (first i) (second i)
or-ok (Ok true) y p q first second = λ i. or_of (first i) (second i)
or-ok (Ok false) y p q first second = second ∙ (λ i. or_of (first i) q)

mutual
  pub truth-ok : (m : Memory) (cond : Cond) → result_ok (truth_or_trap m cond) ≡ truth_of m cond
  truth-ok m (Truth expr) =
      made-ok (λ x. not (int_eq x (pos 0))) (value_or_trap m expr) (value_of m expr) (value-ok m expr)
  truth-ok m (Compare rel left right) =
      both-ok (λ x y. Ok (holds rel x y)) (λ x y. Some (holds rel x y)) (value_or_trap m left) (value_or_trap m right)
      (value_of m left) (value_of m right)
      (λ x y. refl) (value-ok m left) (value-ok m right)
  truth-ok m (Not' _ row) = made-ok not (truth_in m row) (value.truth_in m row) (truth-row m row)
  truth-ok m (And' _ first _ second) =
      and-ok (truth_in m first) (truth_in m second) (value.truth_in m first) (value.truth_in m second)
      (truth-row m first) (truth-row m second)
  truth-ok m (Or' _ first _ second) =
      or-ok (truth_in m first) (truth_in m second) (value.truth_in m first) (value.truth_in m second)
      (truth-row m first) (truth-row m second)

  truth-row : {n : _} (m : Memory) (row : Row_of-Cond n) → result_ok (truth_in m row) ≡ value.truth_in m row
  truth-row m end_of-Cond = refl
  truth-row m (more_of-Cond test _) = truth-ok m test

pub err-none : {A : Type 0} (x : Worked A) (trap : ValueTrap) → result_err x ≡ Some trap → result_ok x ≡ None
err-none (Ok x) trap is = absurd (cc)
err-none (Err other) trap is = refl

pub none-err : {A : Type 0} (x : Worked A) → result_ok x ≡ None → IsSome (result_err x)
none-err (Ok x) is = absurd (cc)
none-err (Err trap) is = search

pub trap-none : (m : Memory) (e : Expr) (trap : ValueTrap) → trap_of m e ≡ Some trap → value_of m e ≡ None
trap-none m e trap is = sym (value-ok m e) ∙ err-none (value_or_trap m e) trap is

pub none-trap : (m : Memory) (e : Expr) → value_of m e ≡ None → IsSome (trap_of m e)
none-trap m e none = none-err (value_or_trap m e) (value-ok m e ∙ none)
