use Rattle.std.proofs.Common.{arith, ◌≡◌, ◌<◌, ◌+◌, ◌-◌, ◌*◌, get_or}
use Rattle.tal_tokens.proofs.Values.{exceeded}
use Rattle.tal_tokens.proofs.number.number.Goals as goal

pub returns-then-value-most-clause-value : goal.returns-then-value-most-clause-value
returns-then-value-most-clause-value c =
    let digit : c.saturating_sub.result ≡ get_or c.args.digits.now c.loop-digit.digit-index 0 - 48 =
    c.saturating_sub.ensures in
    let large : c.args.most < c.loop-digit.value * c.args.base
    + (get_or c.args.digits.now c.loop-digit.digit-index 0 - 48) = omega (arith, digit, c.from.ensures) in
    exceeded c.args.base c.args.most c.loop-digit.value c.loop-digit.digit-index c.args.digits.now 0
    c.loop-digit-test.true c.requires.base.0 c.loop-digit.invariant.0 large
