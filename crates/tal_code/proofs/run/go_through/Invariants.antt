use Rattle.std.proofs.Common.{drop}
use Rattle.tal_values.specs.Seen.{memory_now}
use Rattle.tal_code.proofs.Tops.{Deepens}
use Rattle.tal_code.proofs.run.go_through.Given as goal

abbrev pub invariant-loop-step : goal.invariant-loop-step
invariant-loop-step l = Deepens (memory_now l.memory) l.fn.stack l.steps l.stack (drop l.step-index l.steps)
