use Rattle.path_semantics.proofs.QuietPrograms.{quiet-unbroken}
use Rattle.path_semantics.proofs.laws.quiet_programs_are_bounded.Goals as goal

pub returns : goal.returns
returns c = λ program quiet. (
  λ bounds. record { bounds = bounds; unbroken = quiet-unbroken program quiet },
  λ accepted. accepted.bounds,
)
