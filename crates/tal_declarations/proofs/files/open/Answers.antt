use Rattle.std.proofs.Common.{◌≡◌, [], ◌∷◌, sym, ◌∙◌}
use Rattle.tal_syntax.specs.Seen.{seen_argument, seen_arguments}
use Rattle.tal_names.specs.Places.{arguments_of}
use Rattle.tal_declarations.proofs.Counted.{three_of}
use Rattle.tal_declarations.proofs.files.open.Goals as goal

pub returns-in-Some-argument-2 : goal.returns-in-Some-argument-2
returns-in-Some-argument-2 c =
    let three : arguments_of (seen_arguments c.args.arguments.now)
    ≡ seen_argument c.in-Some.string.now ∷ seen_argument c.in-Some-argument.variable.now
    ∷ seen_argument c.in-Some-argument-2.depth.now ∷ [] =
    three_of _ _ _ _ (sym c.argument_count.ensures ∙ c.if-argument_count-ne3.false) (sym c.in-Some.ensures)
    (sym c.in-Some-argument.ensures) (sym c.in-Some-argument-2.ensures) in
    rw three c.open_file.ensures
