use Rattle.std.proofs.Common.{◌≡◌, ◌≤◌, ◌<◌, ap, arith}
use Rattle.tal_tree.specs.declared.expression.Expr.{Read, Minus, size-Expr}
use Rattle.tal_tree.specs.declared.expression.Expr.TheViews.{sized-Read, sized-Minus}
use Rattle.tal_values.specs.Chain.{expr_of}
use Rattle.tal_values.proofs.ValueSteps.{first_within}
use Rattle.tal_code.proofs.Growing.{tail-within, tail-waits, grows-on}
use Rattle.tal_code.specs.Waiting.{waiting_of}
use Rattle.tal_code.proofs.Waits.{first_waits, waiting-read, waiting-minus}
use Rattle.tal_code.proofs.compile.+put.Goals as goal

pub put_expr-put_first-requires : goal.put_expr-put_first-requires
put_expr-put_first-requires t c =
    let within : size-Expr (expr_of c.in_ok-chain.chain.first) ≤ size-Expr c.args.expr.now =
    omega (
      arith,
      first_within (expr_of c.in_ok-chain.chain.first) c.in_ok-chain.chain.tails.items,
      ap size-Expr c.in_ok-chain.ensures,
    ) in (
      omega (arith, c.decreases),
      omega (
        arith,
        c.requires,
        first_waits (expr_of c.in_ok-chain.chain.first) c.in_ok-chain.chain.tails.items,
        ap waiting_of c.in_ok-chain.ensures,
      ),
    )

pub put_expr-put_tail-requires : goal.put_expr-put_tail-requires
put_expr-put_tail-requires t c =
    let within : size-Expr c.in-Some.tail.right.now < size-Expr c.args.expr.now =
    tail-within c.pop.new.self.items c.in-Some.tail c.in-Some.ensures.items c.loop-tail.invariant in (
      omega (arith, c.decreases),
      tail-waits c.pop.new.self.items c.in-Some.tail c.in-Some.ensures.items c.requires
          c.loop-tail.invariant,
    )

pub put_expr-loop-tail-preserved : goal.put_expr-loop-tail-preserved
put_expr-loop-tail-preserved t c =
    grows-on c.pop.new.self.items c.in-Some.tail c.in-Some.ensures.items c.in_ok-put_tail.ensures c.loop-tail.invariant

pub put_first-put_spot-requires : goal.put_first-put_spot-requires
put_first-put_spot-requires t c =
    let is : expr_of c.args.first ≡ Read c.in-Read.spot.now = ap expr_of c.in-Read.is in (
      omega (arith, c.decreases, ap size-Expr is, sized-Read c.in-Read.spot.now),
      omega (arith, c.requires, ap waiting_of is, waiting-read c.in-Read.spot.now),
    )

pub put_first-put_expr-requires : goal.put_first-put_expr-requires
put_first-put_expr-requires t c =
    let is : expr_of c.args.first ≡ Minus c.in-Minus.inner.now = ap expr_of c.in-Minus.is in (
      omega (arith, c.decreases, ap size-Expr is, sized-Minus c.in-Minus.inner.now),
      omega (arith, c.requires, ap waiting_of is, waiting-minus c.in-Minus.inner.now),
    )
