use Rattle.std.proofs.Common.{◌∙◌, sym}
use Rattle.process_copies.proofs.Changing.{settles-changed}
use Rattle.process_copies.proofs.copies.ProcessCopies.change_to.Goals as goal

pub returns-clause-step : goal.returns-clause-step
returns-clause-step c =
    settles-changed c.args.self.now c.apply_change.new.self c.applied.new.self c.args.which c.args.change.now
    c.taken_by_change.result c.args.records.now c.applied.new.records
    c.in_ok-step.step c.taken_by_change.ensures (sym c.apply_change.ensures.told ∙ c.if-not-apply_change.false)
    c.apply_change.ensures.process c.in_ok-step.ensures.told c.in_ok-step.ensures.process
    c.in_ok-step.ensures.records
