use Rattle.std.proofs.Common.{◌∙◌, sym}
use Rattle.discipline.proofs.Settling.{none-suspected}
use Rattle.discipline.proofs.suspects.suspects.Goals as goal

pub returns-then-len-eq0-clause-suspects : goal.returns-then-len-eq0-clause-suspects
returns-then-len-eq0-clause-suspects c =
    none-suspected c.args.flow.now c.none.result (sym c.len.ensures.count ∙ c.if-len-eq0.true)
