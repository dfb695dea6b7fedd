-- What is worked out of one more layer, and of a chain of operators from its first operand on.
use Rattle.std.proofs.Common.{◌≡◌, ◌<◌, List, [], ◌∷◌, ◌++◌, ap, sym, ◌∙◌, arith}
use Rattle.std.specs.Prelude.{ℤ, neg_ℤ}
use Rattle.tal_tree.specs.gd_words.specs.Arithmetic.{wrap}
use Rattle.tal_tree.specs.Rows.{read-is, minus-is, two-is}
use Rattle.tal_tree.specs.declared.expression.Op.{Op}
use Rattle.tal_tree.specs.declared.expression.Spot.{Spot}
use Rattle.tal_tree.specs.declared.expression.Expr.{Expr, Read, Minus, Two, size-Expr}
use Rattle.tal_values.specs.declared.chain.Tail.{Tail}
use Rattle.tal_values.specs.Chain.{with_tails}
use Rattle.tal_values.specs.Value.{Memory}
use Rattle.tal_values.proofs.ChainSteps.{chained-push}
use Rattle.tal_values.proofs.ValueSteps.{first_within, right_within}
use Rattle.value_traps.specs.Traps.{Worked, cell_or_trap, made, of_both, quotient_or_trap, value_or_trap}
use Rattle.value_traps.specs.Traps.{word_or_trap, worked_on}

pub worked-read : (m : Memory) (spot : Spot)
    → value_or_trap m (Read spot) ≡ worked_on (word_or_trap m) (cell_or_trap m spot)
worked-read m spot = ap (value_or_trap m) (read-is spot)

pub worked-minus : (m : Memory) (inner : Expr)
    → value_or_trap m (Minus inner) ≡ made (λ x. wrap (neg_ℤ x)) (value_or_trap m inner)
worked-minus m inner = ap (value_or_trap m) (minus-is inner)

pub worked-two : (m : Memory) (op : Op) (left right : Expr)
    → value_or_trap m (Two op left right)
    ≡ of_both (quotient_or_trap op) (value_or_trap m left) (value_or_trap m right)
worked-two m op left right = ap (value_or_trap m) (two-is op left right)

-- what the operators that are left make of an expression that was worked out so is the whole
pub record Climbs (m : Memory) (left : Worked ℤ) (tails : List Tail) (whole : Expr) : Type 0 where
  pub below : Expr
  pub value : value_or_trap m below ≡ left
  pub chain : with_tails below tails ≡ whole

pub climbs_up : (m : Memory) {left right : Worked ℤ} {whole : Expr} {items : List Tail} (tails : List Tail)
    (tail : Tail)
    → items ≡ tails ++ tail ∷ [] → right ≡ value_or_trap m tail.right.now → Climbs m left items whole
    → Climbs m (of_both (quotient_or_trap tail.op) left right) tails whole
climbs_up m {left} {right} {whole} {items} tails tail popped at_right so_far = record {
  below = Two tail.op so_far.below tail.right.now;
  value = worked-two m tail.op so_far.below tail.right.now
      ∙ (λ i. of_both (quotient_or_trap tail.op) (so_far.value i) (sym at_right i));
  chain = sym (chained-push so_far.below tails tail) ∙ ap (with_tails so_far.below) (sym popped) ∙ so_far.chain;
}

pub tail_within : {m : Memory} {left : Worked ℤ} {whole : Expr} {items : List Tail} (tails : List Tail) (tail : Tail)
    → items ≡ tails ++ tail ∷ [] → Climbs m left items whole → size-Expr tail.right.now < size-Expr whole
tail_within {m} {left} {whole} {items} tails tail popped so_far =
    let grown : with_tails (Two tail.op so_far.below tail.right.now) tails ≡ whole =
    sym (chained-push so_far.below tails tail) ∙ ap (with_tails so_far.below) (sym popped) ∙ so_far.chain in
    omega (
      arith,
      ap size-Expr grown,
      first_within (Two tail.op so_far.below tail.right.now) tails,
      right_within tail.op so_far.below tail.right.now,
    )
