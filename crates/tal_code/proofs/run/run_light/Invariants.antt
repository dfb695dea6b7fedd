use Rattle.std.proofs.Common.{◌≡◌, drop}
use Rattle.tal_values.specs.Seen.{memory_now}
use Rattle.tal_code.proofs.Tops.{Lightens}
use Rattle.tal_code.proofs.run.run_light.Given as goal

abbrev pub invariant-loop-step : goal.invariant-loop-step
invariant-loop-step l = record {
  left : l.left ≡ drop l.step-index l.steps;
  lightens : Lightens (memory_now l.memory) l.fn.first l.steps l.top l.left;
}
