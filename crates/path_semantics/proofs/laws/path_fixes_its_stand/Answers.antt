use Rattle.path_semantics.proofs.Differing.{path-fixes}
use Rattle.path_semantics.proofs.laws.path_fixes_its_stand.Goals as goal

pub returns : goal.returns
returns c = λ program path one other ordered first second same.
    path-fixes program ordered path one other first second same
