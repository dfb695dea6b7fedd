use Rattle.std.proofs.Common.{arith}
use Rattle.unfailing_judge.proofs.Verdicts.{judged}
use Rattle.unfailing_judge.proofs.judge.wrong_in.Goals as goal

pub wrong_after-requires-clause-within : goal.wrong_after-requires-clause-within
wrong_after-requires-clause-within c = omega (arith, c.in_ok-settled.ensures.settled.reached)

pub returns : goal.returns
returns c =
    judged c.args.site.now c.args.acts.now c.args.shown.now c.in_ok-settled.settled.left.items
    c.in_ok-settled.settled.replay c.in_ok-settled.ensures.settled c.args.idle c.wrong_after.result
    c.wrong_after.ensures
