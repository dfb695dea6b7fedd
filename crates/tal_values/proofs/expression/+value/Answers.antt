use Rattle.std.proofs.Common.{◌≤◌, ◌<◌, ap, sym, ◌∙◌, arith}
use Rattle.std.specs.Prelude.{neg_ℤ, option_map, option_and_then}
use Rattle.tal_tree.specs.gd_words.specs.Arithmetic.{wrap}
use Rattle.tal_tree.specs.declared.expression.Expr.{size-Expr}
use Rattle.tal_values.specs.Chain.{expr_of}
use Rattle.tal_values.specs.Seen.{memory_now}
use Rattle.tal_values.specs.Value.{value_of, word_at}
use Rattle.tal_values.proofs.ValueSteps.{value-read, value-minus, climbs_up, first_within, tail_within}
use Rattle.tal_values.proofs.expression.+value.Goals as goal

pub operand-returns-in_ok-cell-in-Read : goal.operand-returns-in_ok-cell-in-Read
operand-returns-in_ok-cell-in-Read t c =
    c.read.ensures ∙ ap (option_and_then (word_at (memory_now c.args.memory))) c.in_ok-cell-in-Read.ensures
    ∙ sym (value-read (memory_now c.args.memory) c.in-Read.spot.now)
    ∙ ap (λ first. value_of (memory_now c.args.memory) (expr_of first)) (sym c.in-Read.is)

pub operand-returns-in_ok-inner-in-Minus : goal.operand-returns-in_ok-inner-in-Minus
operand-returns-in_ok-inner-in-Minus t c =
    c.negated.ensures ∙ ap (option_map (λ x. wrap (neg_ℤ x))) c.in_ok-inner-in-Minus.ensures
    ∙ sym (value-minus (memory_now c.args.memory) c.in-Minus.inner.now)
    ∙ ap (λ first. value_of (memory_now c.args.memory) (expr_of first)) (sym c.in-Minus.is)

pub value-operand-requires : goal.value-operand-requires
value-operand-requires t c =
    let within : size-Expr (expr_of c.in_ok-chain.chain.first) ≤ size-Expr c.args.expr.now =
    omega (
      arith,
      first_within (expr_of c.in_ok-chain.chain.first) c.in_ok-chain.chain.tails.items,
      ap size-Expr c.in_ok-chain.ensures,
    ) in
    (omega (arith, c.decreases), tt)

pub value-value-requires : goal.value-value-requires
value-value-requires t c =
    let within : size-Expr c.in-Some.tail.right.now < size-Expr c.args.expr.now =
    tail_within c.pop.new.self.items c.in-Some.tail c.in-Some.ensures.items c.loop-tail.invariant in
    (omega (arith, c.decreases), tt)

pub value-loop-tail-preserved : goal.value-loop-tail-preserved
value-loop-tail-preserved t c =
    rw c.applied-left.ensures
    (climbs_up (memory_now c.args.memory) c.pop.new.self.items c.in-Some.tail c.in-Some.ensures.items
    c.in_ok-right.ensures
    c.loop-tail.invariant)
