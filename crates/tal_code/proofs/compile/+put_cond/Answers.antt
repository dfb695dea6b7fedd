use Rattle.std.proofs.Common.{◌≡◌, ◌≤◌, ◌<◌, ap, arith}
use Rattle.tal_tree.specs.declared.expression.Cond.{Not, size-Cond}
use Rattle.tal_tree.specs.declared.expression.Cond.TheViews.{sized-Not}
use Rattle.tal_values.specs.Chain.{cond_of}
use Rattle.tal_values.proofs.TruthSteps.{first_within}
use Rattle.tal_code.proofs.Growing.{link-within, link-waits, joins-on}
use Rattle.tal_code.specs.Waiting.{waiting_of_test}
use Rattle.tal_code.proofs.Waits.{first_test_waits, waiting-not}
use Rattle.tal_code.proofs.compile.+put_cond.Goals as goal

pub put_cond-put_test-requires : goal.put_cond-put_test-requires
put_cond-put_test-requires t c =
    let within : size-Cond (cond_of c.in_ok-chain.chain.first) ≤ size-Cond c.args.cond.now =
    omega (
      arith,
      first_within (cond_of c.in_ok-chain.chain.first) c.in_ok-chain.chain.links.items,
      ap size-Cond c.in_ok-chain.ensures,
    ) in (
      omega (arith, c.decreases),
      omega (
        arith,
        c.requires,
        first_test_waits (cond_of c.in_ok-chain.chain.first) c.in_ok-chain.chain.links.items,
        ap waiting_of_test c.in_ok-chain.ensures,
      ),
    )

pub put_cond-put_link-requires : goal.put_cond-put_link-requires
put_cond-put_link-requires t c =
    let within : size-Cond c.in-Some.link.right.now < size-Cond c.args.cond.now =
    link-within c.pop.new.self.items c.in-Some.link c.in-Some.ensures.items c.loop-link.invariant in (
      omega (arith, c.decreases),
      link-waits c.pop.new.self.items c.in-Some.link c.in-Some.ensures.items c.requires
          c.loop-link.invariant,
    )

pub put_cond-loop-link-preserved : goal.put_cond-loop-link-preserved
put_cond-loop-link-preserved t c =
    joins-on c.pop.new.self.items c.in-Some.link c.in-Some.ensures.items c.in_ok-put_link.ensures c.loop-link.invariant

pub put_test-put_cond-requires : goal.put_test-put_cond-requires
put_test-put_cond-requires t c =
    let is : cond_of c.args.first ≡ Not c.in-Not.inner.now = ap cond_of c.in-Not.is in (
      omega (arith, c.decreases, ap size-Cond is, sized-Not c.in-Not.inner.now),
      omega (arith, c.requires, ap waiting_of_test is, waiting-not c.in-Not.inner.now),
    )
