use Rattle.std.proofs.Common.{◌≤◌, ◌<◌, ap, sym, ◌∙◌, arith}
use Rattle.std.specs.Prelude.{not}
use Rattle.tal_tree.specs.declared.expression.Cond.{size-Cond}
use Rattle.tal_values.specs.Chain.{cond_of}
use Rattle.tal_values.specs.Seen.{memory_now}
use Rattle.tal_values.proofs.TruthSteps.{first_within}
use Rattle.value_traps.specs.Traps.{made, truth_or_trap}
use Rattle.value_traps.proofs.TruthSteps.{worked-not, climbs_up, link_within}
use Rattle.value_traps.proofs.condition.+truth.Goals as goal

pub tested-returns-in_ok-inner-in-Not : goal.tested-returns-in_ok-inner-in-Not
tested-returns-in_ok-inner-in-Not t c =
    c.opposite.ensures ∙ ap (made not) c.in_ok-inner-in-Not.ensures
    ∙ sym (worked-not (memory_now c.args.memory) c.in-Not.inner.now)
    ∙ ap (λ first. truth_or_trap (memory_now c.args.memory) (cond_of first)) (sym c.in-Not.is)

pub truth_or_trap-tested-requires : goal.truth_or_trap-tested-requires
truth_or_trap-tested-requires t c =
    let within : size-Cond (cond_of c.in_ok-chain.chain.first) ≤ size-Cond c.args.cond.now =
    omega (
      arith,
      first_within (cond_of c.in_ok-chain.chain.first) c.in_ok-chain.chain.links.items,
      ap size-Cond c.in_ok-chain.ensures,
    ) in
    (omega (arith, c.decreases), tt)

pub truth_or_trap-joined-requires : goal.truth_or_trap-joined-requires
truth_or_trap-joined-requires t c =
    let within : size-Cond c.in-Some.link.right.now < size-Cond c.args.cond.now =
    link_within c.pop.new.self.items c.in-Some.link c.in-Some.ensures.items c.loop-link.invariant in
    (omega (arith, c.decreases), tt)

pub truth_or_trap-loop-link-preserved : goal.truth_or_trap-loop-link-preserved
truth_or_trap-loop-link-preserved t c =
    rw c.in_ok-left-2.ensures (climbs_up (memory_now c.args.memory) c.pop.new.self.items c.in-Some.link
    c.in-Some.ensures.items c.loop-link.invariant)
