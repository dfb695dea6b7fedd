use Rattle.discipline.proofs.Tried.{before-depths}
use Rattle.discipline.proofs.checker.check_reasons.Goals as goal

pub try_depths-requires-clause-before : goal.try_depths-requires-clause-before
try_depths-requires-clause-before c =
    before-depths c.args.program.now c.in_ok-try_files.ensures.tried c.in_ok-try_reason.ensures.tried
