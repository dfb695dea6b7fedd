use Rattle.statement_dues.proofs.Told.{deeds_told}
use Rattle.statement_dues.proofs.deeds.deeds_of.Goals as goal

pub returns : goal.returns
returns c =
    deeds_told c.args.program.now c.as_slice.result.now c.in_ok-entries.entries c.as_slice.ensures
    c.in_ok-entries.ensures c.args.reason c.in_ok-deeds.deeds c.in_ok-deeds.ensures
