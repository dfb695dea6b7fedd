use Rattle.verdicts.specs.Refused.{AreAcceptedBefore}
use Rattle.verdicts.proofs.refused.first_refused.Given as goal

abbrev pub invariant-loop-place : goal.invariant-loop-place
invariant-loop-place l = AreAcceptedBefore l.processes l.place
