use Rattle.std.proofs.Common.{◌≡◌, [], refl}
use Rattle.std.proofs.lemmas.List.{nil_from_length}
use Rattle.tal_syntax.proofs.SeenSteps.{product-open}
use Rattle.tal_names.proofs.alone.factor_of_product.Goals as goal

pub returns-in-None : goal.returns-in-None
returns-in-None c =
    let none : c.as_slice.result.now ≡ [] = nil_from_length c.as_slice.result.now c.in-None.ensures.cases in
    rw (product-open c.args.product.now, ← c.as_slice.ensures, none) refl
