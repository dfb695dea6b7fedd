use Rattle.std.proofs.Common.{◌≡◌, [], refl}
use Rattle.std.proofs.lemmas.List.{nil_from_length}
use Rattle.tal_syntax.proofs.SeenSteps.{expr-open}
use Rattle.tal_names.proofs.alone.factor_of_expr.Goals as goal

pub returns-in-None : goal.returns-in-None
returns-in-None c =
    let none : c.as_slice.result.now ≡ [] = nil_from_length c.as_slice.result.now c.in-None.ensures.cases in
    rw (c.factor_of_both.ensures, expr-open c.args.expr.now, ← c.as_slice.ensures, none) refl
