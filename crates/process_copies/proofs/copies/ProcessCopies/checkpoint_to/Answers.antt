use Rattle.std.proofs.Common.{◌∙◌, sym}
use Rattle.process_copies.proofs.Applying.{settles-taken}
use Rattle.process_copies.proofs.copies.ProcessCopies.checkpoint_to.Goals as goal

pub returns-clause-step : goal.returns-clause-step
returns-clause-step c =
    settles-taken c.args.self.now c.apply.new.self c.applied.new.self c.args.which c.args.message.now c.taken_of.result
    c.args.records.now c.applied.new.records
    c.in_ok-step.step c.taken_of.ensures (sym c.apply.ensures.told ∙ c.if-not-apply.false) c.apply.ensures.process
    c.in_ok-step.ensures.told c.in_ok-step.ensures.process
    c.in_ok-step.ensures.records
