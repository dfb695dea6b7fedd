use Rattle.std.proofs.Common.{◌≡◌, ◌-◌, refl, suc, arith}
use Rattle.tal_names.proofs.Counted.{argument-at}
use Rattle.tal_names.proofs.alone.argument.Goals as goal

pub returns-in-None : goal.returns-in-None
returns-in-None c =
    let later : c.args.place ≡ suc (c.args.place - 1) = omega (arith, c.if-place-eq0.false) in
    rw (c.in-Listed.is, later, argument-at, ← c.in-None.ensures.value) refl

pub returns-in-Some : goal.returns-in-Some
returns-in-Some c =
    let later : c.args.place ≡ suc (c.args.place - 1) = omega (arith, c.if-place-eq0.false) in
    rw (c.in-Listed.is, later, argument-at, ← c.in-Some.ensures.value) refl
