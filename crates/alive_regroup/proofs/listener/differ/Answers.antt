use Rattle.std.proofs.Common.{◌≡◌, arith}
use Rattle.std.proofs.lemmas.Bool.{OnFalse_from}
use Rattle.alive_regroup.proofs.Heard.{same-taken}
use Rattle.alive_regroup.proofs.listener.differ.Goals as goal

pub returns : goal.returns
returns c =
    OnFalse_from c.loop-place.differs (c.args.first.now ≡ c.args.second.now)
    (λ none. same-taken c.args.first.now c.args.second.now c.loop-place.place
    (omega (arith, c.told-first, c.loop-place-test.false)) (omega (arith, c.told-second, c.loop-place-test.false))
    (c.loop-place.invariant none))
