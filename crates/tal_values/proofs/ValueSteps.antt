-- The value of one more layer, and of a chain of operators from its first operand on.
use Rattle.std.proofs.Common.{◌≡◌, ◌<◌, ◌≤◌, List, [], ◌∷◌, ◌++◌, ap, sym, ◌∙◌, arith}
use Rattle.std.specs.Prelude.{ℤ, neg_ℤ, Option, option_map}
use Rattle.std.specs.Option.{option_and_then}
use Rattle.tal_tree.specs.gd_words.specs.Arithmetic.{wrap}
use Rattle.tal_tree.specs.Rows.{read-is, minus-is, two-is}
use Rattle.tal_tree.specs.declared.expression.Op.{Op}
use Rattle.tal_tree.specs.declared.expression.Spot.{Spot}
use Rattle.tal_tree.specs.declared.expression.Expr.{Expr, Read, Minus, Two, size-Expr}
use Rattle.tal_tree.specs.declared.expression.Expr.TheViews.{sized-Two}
use Rattle.tal_values.specs.declared.chain.Tail.{Tail}
use Rattle.tal_values.specs.Chain.{with_tails}
use Rattle.tal_values.specs.Value.{Memory, value_of, cell_of, word_at, both, result_of}
use Rattle.tal_values.proofs.ChainSteps.{chained-push}

pub value-read : (m : Memory) (spot : Spot) → value_of m (Read spot) ≡ option_and_then (word_at m) (cell_of m spot)
value-read m spot = ap (value_of m) (read-is spot)

pub value-minus : (m : Memory) (inner : Expr)
    → value_of m (Minus inner) ≡ option_map (λ x. wrap (neg_ℤ x)) (value_of m inner)
value-minus m inner = ap (value_of m) (minus-is inner)

pub value-two : (m : Memory) (op : Op) (left right : Expr)
    → value_of m (Two op left right) ≡ both (result_of op) (value_of m left) (value_of m right)
value-two m op left right = ap (value_of m) (two-is op left right)

-- what the operators that are left make of an expression of this value is the whole
pub record Climbs (m : Memory) (left : Option ℤ) (tails : List Tail) (whole : Expr) : Type 0 where
  pub below : Expr
  pub value : value_of m below ≡ left
  pub chain : with_tails below tails ≡ whole

pub climbs_up : (m : Memory) {left right : Option ℤ} {whole : Expr} {items : List Tail} (tails : List Tail)
    (tail : Tail)
    → items ≡ tails ++ tail ∷ [] → right ≡ value_of m tail.right.now → Climbs m left items whole
    → Climbs m (both (result_of tail.op) left right) tails whole
climbs_up m {left} {right} {whole} {items} tails tail popped at_right so_far = record {
  below = Two tail.op so_far.below tail.right.now;
  value = value-two m tail.op so_far.below tail.right.now
      ∙ (λ i. both (result_of tail.op) (so_far.value i) (sym at_right i));
  chain = sym (chained-push so_far.below tails tail) ∙ ap (with_tails so_far.below) (sym popped) ∙ so_far.chain;
}

-- depths
pub left_within : (op : Op) (left right : Expr) → size-Expr left < size-Expr (Two op left right)
left_within op left right = omega (arith, sized-Two op left right)

pub right_within : (op : Op) (left right : Expr) → size-Expr right < size-Expr (Two op left right)
right_within op left right = omega (arith, sized-Two op left right)

pub first_within : (first : Expr) (tails : List Tail) → size-Expr first ≤ size-Expr (with_tails first tails)
first_within first [] = omega arith
first_within first (tail ∷ tails) =
    omega (arith, first_within first tails, left_within tail.op (with_tails first tails) tail.right.now)

pub tail_within : {m : Memory} {left : Option ℤ} {whole : Expr} {items : List Tail} (tails : List Tail) (tail : Tail)
    → items ≡ tails ++ tail ∷ [] → Climbs m left items whole → size-Expr tail.right.now < size-Expr whole
tail_within {m} {left} {whole} {items} tails tail popped so_far =
    let grown : with_tails (Two tail.op so_far.below tail.right.now) tails ≡ whole =
    sym (chained-push so_far.below tails tail) ∙ ap (with_tails so_far.below) (sym popped) ∙ so_far.chain in
    omega (
      arith,
      ap size-Expr grown,
      first_within (Two tail.op so_far.below tail.right.now) tails,
      right_within tail.op so_far.below tail.right.now,
    )
