use Rattle.site_advice.proofs.Places.{AreGathered}
use Rattle.site_advice.proofs.pairs.advise_all.Given as goal

abbrev pub invariant-loop-place : goal.invariant-loop-place
invariant-loop-place l = AreGathered l.processes l.place l.pairs
