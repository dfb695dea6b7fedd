use Rattle.std.proofs.Common.{rules, sym, ◌∙◌, FitsSigned}
use Rattle.std.proofs.lemmas.Int.{to_z-of_z}
use Rattle.std.specs.Int.{w16}
use Rattle.checkpoint_image.proofs.Patterns.{pattern-is}
use Rattle.checkpoint_image.proofs.putting.pattern.Goals as goal

pub returns : goal.returns
returns c =
    let fits : FitsSigned w16 c.cast_signed.result = search rules in
    to_z-of_z w16 c.cast_signed.result fits ∙ c.cast_signed.ensures ∙ sym (pattern-is c.args.number (search rules))
