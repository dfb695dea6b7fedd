use Rattle.std.proofs.Common.{◌≤◌, ◌<◌, ap, sym, ◌∙◌, arith}
use Rattle.std.specs.Prelude.{neg_ℤ}
use Rattle.tal_tree.specs.gd_words.specs.Arithmetic.{wrap}
use Rattle.tal_tree.specs.declared.expression.Expr.{size-Expr}
use Rattle.tal_values.specs.Chain.{expr_of}
use Rattle.tal_values.specs.Seen.{memory_now}
use Rattle.tal_values.proofs.ValueSteps.{first_within}
use Rattle.value_traps.specs.Traps.{made, value_or_trap, word_or_trap, worked_on}
use Rattle.value_traps.proofs.ValueSteps.{worked-read, worked-minus, climbs_up, tail_within}
use Rattle.value_traps.proofs.expression.+value.Goals as goal

pub operand-returns-in_ok-cell-in-Read : goal.operand-returns-in_ok-cell-in-Read
operand-returns-in_ok-cell-in-Read t c =
    c.read.ensures ∙ ap (worked_on (word_or_trap (memory_now c.args.memory))) c.in_ok-cell-in-Read.ensures
    ∙ sym (worked-read (memory_now c.args.memory) c.in-Read.spot.now)
    ∙ ap (λ first. value_or_trap (memory_now c.args.memory) (expr_of first)) (sym c.in-Read.is)

pub operand-returns-in_ok-inner-in-Minus : goal.operand-returns-in_ok-inner-in-Minus
operand-returns-in_ok-inner-in-Minus t c =
    c.negated.ensures ∙ ap (made (λ x. wrap (neg_ℤ x))) c.in_ok-inner-in-Minus.ensures
    ∙ sym (worked-minus (memory_now c.args.memory) c.in-Minus.inner.now)
    ∙ ap (λ first. value_or_trap (memory_now c.args.memory) (expr_of first)) (sym c.in-Minus.is)

pub value_or_trap-operand-requires : goal.value_or_trap-operand-requires
value_or_trap-operand-requires t c =
    let within : size-Expr (expr_of c.in_ok-chain.chain.first) ≤ size-Expr c.args.expr.now =
    omega (
      arith,
      first_within (expr_of c.in_ok-chain.chain.first) c.in_ok-chain.chain.tails.items,
      ap size-Expr c.in_ok-chain.ensures,
    ) in
    (omega (arith, c.decreases), tt)

pub value_or_trap-value_or_trap-requires : goal.value_or_trap-value_or_trap-requires
value_or_trap-value_or_trap-requires t c =
    let within : size-Expr c.in-Some.tail.right.now < size-Expr c.args.expr.now =
    tail_within c.pop.new.self.items c.in-Some.tail c.in-Some.ensures.items c.loop-tail.invariant in
    (omega (arith, c.decreases), tt)

pub value_or_trap-loop-tail-preserved : goal.value_or_trap-loop-tail-preserved
value_or_trap-loop-tail-preserved t c =
    rw c.applied-left.ensures
    (climbs_up (memory_now c.args.memory) c.pop.new.self.items c.in-Some.tail c.in-Some.ensures.items
    c.in_ok-right.ensures
    c.loop-tail.invariant)
