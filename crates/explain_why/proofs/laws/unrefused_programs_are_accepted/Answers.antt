use Rattle.std.proofs.Common.{◌∙◌, sym}
use Rattle.explain_why.proofs.Accepted.{unrefused_are_accepted}
use Rattle.explain_why.proofs.laws.unrefused_programs_are_accepted.Goals as goal

pub returns : goal.returns
returns c = λ bytes specs judged is none.
    unrefused_are_accepted specs is.0 is.1 (sym is.3 ∙ none)
