use Rattle.std.proofs.Common.{ap, ◌+◌}
use Rattle.discipline.proofs.Finding.{found-last}
use Rattle.discipline.proofs.find.find_last.Goals as goal

pub returns-then-last-number : goal.returns-then-last-number
returns-then-last-number c =
    found-last c.args.statement.now c.args.last c.args.number (c.from-after.result + 1) c.requires
    c.if-last-number.true (ap (λ n. n + 1) c.from-after.ensures)
