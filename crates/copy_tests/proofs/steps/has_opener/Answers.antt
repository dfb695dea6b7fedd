use Rattle.std.proofs.Common.{arith, subst, ◌<◌, length}
use Rattle.std.proofs.lemmas.Bool.{ltb-true}
use Rattle.copy_tests.proofs.Openers.{has_opener}
use Rattle.copy_tests.proofs.steps.has_opener.Goals as goal

pub returns : goal.returns
returns g c = λ is.
    let table = c.in_ok-table.table in
    let below : c.from.result < c.len.result = ltb-true c.from.result c.len.result is in
    let there : c.args.opener < length table.openers = omega (arith, below, c.from.ensures, c.len.ensures) in
    subst (λ depths. c.args.opener < length depths) c.receive.ensures.depths
    (has_opener c.receive.result.now table c.args.opener c.in_ok-table.ensures.sound c.in_ok-table.ensures.table there)
