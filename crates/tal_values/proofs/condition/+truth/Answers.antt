use Rattle.std.proofs.Common.{◌≤◌, ◌<◌, ap, sym, ◌∙◌, arith}
use Rattle.std.specs.Prelude.{not, option_map}
use Rattle.tal_tree.specs.declared.expression.Cond.{size-Cond}
use Rattle.tal_values.specs.Chain.{cond_of}
use Rattle.tal_values.specs.Seen.{memory_now}
use Rattle.tal_values.specs.Value.{truth_of}
use Rattle.tal_values.proofs.TruthSteps.{truth-not, climbs_up, first_within, link_within}
use Rattle.tal_values.proofs.condition.+truth.Goals as goal

pub tested-returns-in_ok-inner-in-Not : goal.tested-returns-in_ok-inner-in-Not
tested-returns-in_ok-inner-in-Not t c =
    c.opposite.ensures ∙ ap (option_map not) c.in_ok-inner-in-Not.ensures
    ∙ sym (truth-not (memory_now c.args.memory) c.in-Not.inner.now)
    ∙ ap (λ first. truth_of (memory_now c.args.memory) (cond_of first)) (sym c.in-Not.is)

pub truth-tested-requires : goal.truth-tested-requires
truth-tested-requires t c =
    let within : size-Cond (cond_of c.in_ok-chain.chain.first) ≤ size-Cond c.args.cond.now =
    omega (
      arith,
      first_within (cond_of c.in_ok-chain.chain.first) c.in_ok-chain.chain.links.items,
      ap size-Cond c.in_ok-chain.ensures,
    ) in
    (omega (arith, c.decreases), tt)

pub truth-joined-requires : goal.truth-joined-requires
truth-joined-requires t c =
    let within : size-Cond c.in-Some.link.right.now < size-Cond c.args.cond.now =
    link_within c.pop.new.self.items c.in-Some.link c.in-Some.ensures.items c.loop-link.invariant in
    (omega (arith, c.decreases), tt)

pub truth-loop-link-preserved : goal.truth-loop-link-preserved
truth-loop-link-preserved t c =
    rw c.in_ok-left-2.ensures (climbs_up (memory_now c.args.memory) c.pop.new.self.items c.in-Some.link
    c.in-Some.ensures.items c.loop-link.invariant)
