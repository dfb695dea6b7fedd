use Rattle.std.proofs.Common.{arith}
use Rattle.schedule.specs.declared.line.Line.TheVariants.{Drain, Mix, Mute}
use Rattle.player.specs.Lines.{begun}
use Rattle.player.proofs.Lasting.{rounds-kept}
use Rattle.player.proofs.laws.a_line_ends_its_rounds_at_most.Goals as goal

pub returns-clause-standing : goal.returns-clause-standing
returns-clause-standing c = rounds-kept

pub returns-clause-drained : goal.returns-clause-drained
returns-clause-drained c =
    λ sizes rounds counts few. let low = rounds-kept sizes (begun (Drain rounds)) counts few in omega (arith, low)

pub returns-clause-muted : goal.returns-clause-muted
returns-clause-muted c = λ sizes node rounds counts few. let low =
    rounds-kept sizes (begun (Mute node rounds)) counts few in omega (arith, low)

pub returns-clause-mixed : goal.returns-clause-mixed
returns-clause-mixed c = λ sizes start rounds counts few. let low =
    rounds-kept sizes (begun (Mix start rounds)) counts few in omega (arith, low)
