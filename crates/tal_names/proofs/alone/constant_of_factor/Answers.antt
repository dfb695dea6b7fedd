use Rattle.std.proofs.Common.{◌≡◌, refl, ap, ◌∙◌}
use Rattle.tal_syntax.specs.Grammar as g
use Rattle.tal_syntax.specs.Seen.{seen_factor}
use Rattle.tal_syntax.proofs.SeenSteps.{seen-minus}
use Rattle.tal_names.proofs.alone.constant_of_factor.Goals as goal

pub returns-in-None : goal.returns-in-None
returns-in-None c =
    let seen : seen_factor c.args.factor.now ≡ g.minus c.in-Minus.sign (seen_factor c.in-Minus.inner) =
    ap seen_factor c.in-Minus.is ∙ seen-minus c.in-Minus.sign c.in-Minus.inner in
    rw (seen, ← c.get.ensures, ← c.in-None.ensures) refl

pub returns-in-Some : goal.returns-in-Some
returns-in-Some c =
    let seen : seen_factor c.args.factor.now ≡ g.minus c.in-Minus.sign (seen_factor c.in-Minus.inner) =
    ap seen_factor c.in-Minus.is ∙ seen-minus c.in-Minus.sign c.in-Minus.inner in
    rw (seen, ← c.get.ensures, ← c.in-Some.ensures) refl
