use Rattle.statement_dues.proofs.Told.{named_told}
use Rattle.statement_dues.proofs.checkpoints.checkpoints_of.Goals as goal

pub returns : goal.returns
returns c =
    named_told c.args.program.now c.as_slice.result.now c.in_ok-entries.entries c.as_slice.ensures
    c.in_ok-entries.ensures c.in_ok-found.found c.in_ok-found.ensures
