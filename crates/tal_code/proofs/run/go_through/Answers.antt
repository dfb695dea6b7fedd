use Rattle.std.proofs.Common.{rules, ◌+◌, ◌<◌, length, drop, get_or, add-one, drop-cons}
use Rattle.std.specs.Prelude.{pos}
use Rattle.tal_code.specs.declared.step.Operand.TheVariants.{Number}
use Rattle.tal_code.specs.declared.step.Instruction.TheVariants.{Load}
use Rattle.tal_code.proofs.Tops.{deepens, deepens-room}
use Rattle.tal_code.proofs.run.go_through.Goals as goal

pub work-requires : goal.work-requires
work-requires c =
    let there : c.loop-step.step-index < length c.args.steps.now = search rules in
    deepens-room (get_or c.args.steps.now c.loop-step.step-index (Load (Number (pos 0))))
    (drop (c.loop-step.step-index + 1) c.args.steps.now)
    (rw add-one (drop-cons c.args.steps.now c.loop-step.step-index (Load (Number (pos 0))) there)) c.loop-step.invariant

pub loop-step-preserved : goal.loop-step-preserved
loop-step-preserved c =
    let there : c.loop-step.step-index < length c.args.steps.now = search rules in
    deepens (get_or c.args.steps.now c.loop-step.step-index (Load (Number (pos 0))))
    (drop (c.loop-step.step-index + 1) c.args.steps.now)
    (rw add-one (drop-cons c.args.steps.now c.loop-step.step-index (Load (Number (pos 0))) there))
    c.work.ensures c.loop-step.invariant
