use Rattle.std.proofs.Common.{refl, ap, not, ◌==◌}
use Rattle.discipline.proofs.Walking.{tells-some, tells-zero, tells-empty}
use Rattle.discipline.proofs.walk.Walker.comes_to.Goals as goal

pub returns-in-None : goal.returns-in-None
returns-in-None c = tells-empty c.args.self.now.stack c.args.number c.in-None.ensures

pub returns-then-number-ne0 : goal.returns-then-number-ne0
returns-then-number-ne0 c =
    tells-some c.args.self.now.stack c.in-Some.top c.args.number _ c.in-Some.ensures c.if-number-ne0.true refl

pub returns-else-number-ne0 : goal.returns-else-number-ne0
returns-else-number-ne0 c = tells-zero c.args.self.now.stack c.in-Some.top c.args.number _ c.in-Some.ensures
    c.if-number-ne0.false (ap (λ n. not (n == 0)) c.if-number-ne0.false)
