use Rattle.std.proofs.Common.{◌≡◌, ◌-◌, ◌+◌, suc, true, false, ◌∙◌, ap, sym, arith}
use Rattle.event_parts.specs.packet_wires.specs.Lines.{first_held}
use Rattle.node.proofs.Lines.{held-turn}
use Rattle.node.proofs.node.first_held.Goals as goal

pub returns-then-is_other_held : goal.returns-then-is_other_held
returns-then-is_other_held c =
    let count : 16 - c.loop-processor.processor ≡ suc (16 - (c.loop-processor.processor + 1)) =
    omega (arith, c.loop-processor-test.true) in
    sym (held-turn c.args.me c.args.watch.now c.loop-processor.processor (16 - c.loop-processor.processor)
    (16 - (c.loop-processor.processor + 1)) true count (sym c.if-is_other_held.true ∙ c.is_other_held.ensures))
    ∙ c.loop-processor.invariant

pub loop-processor-preserved : goal.loop-processor-preserved
loop-processor-preserved c =
    let count : 16 - c.loop-processor.processor ≡ suc (16 - (c.loop-processor.processor + 1)) =
    omega (arith, c.loop-processor-test.true) in
    sym (held-turn c.args.me c.args.watch.now c.loop-processor.processor (16 - c.loop-processor.processor)
    (16 - (c.loop-processor.processor + 1)) false count (sym c.if-is_other_held.false ∙ c.is_other_held.ensures))
    ∙ c.loop-processor.invariant

pub returns : goal.returns
returns c =
    let none : 16 - c.loop-processor.processor ≡ 0 = omega (arith, c.loop-processor-test.false) in
    sym (ap (first_held c.args.me c.args.watch.now c.loop-processor.processor) none) ∙ c.loop-processor.invariant
