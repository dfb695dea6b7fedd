use Rattle.std.proofs.Common.{◌≡◌, None, replicate}
use Rattle.noted_runs.proofs.running.none_ended.Given as goal

abbrev pub invariant-loop : goal.invariant-loop
invariant-loop l = l.steps ≡ replicate l.counter None
