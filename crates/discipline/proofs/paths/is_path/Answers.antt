use Rattle.std.proofs.Common.{refl}
use Rattle.discipline.proofs.Broken.{walked-is-path, empty-path}
use Rattle.path_semantics.specs.declared.reason.Reason.TheVariants.{Input}
use Rattle.discipline.proofs.paths.is_path.Goals as goal

pub returns-then-is_empty : goal.returns-then-is_empty
returns-then-is_empty c = empty-path c.args.program.now c.args.path.now c.if-is_empty.ensures

pub returns-in-Some : goal.returns-in-Some
returns-in-Some c =
    ((λ _. walked-is-path c.args.program.now Input c.args.path.now c.in-Some.field-0 c.in-Some.ensures), (λ _. refl))
