use Rattle.std.proofs.Common.{ℕ, Option, below_more, rules, subst}
use Rattle.break_runs.specs.Breaks.{AreSoundUpTo, IsFirstOf}
use Rattle.break_runs.specs.declared.found.StopBreak.{StopBreak}
use Rattle.break_runs.proofs.stops.first_stop.Goals as goal

pub loop-processor-preserved : goal.loop-processor-preserved
loop-processor-preserved g c = (
  below_more (λ (processor : ℕ). AreSoundUpTo c.args.site.now c.args.lines.now processor c.args.places)
      c.loop-processor.processor c.loop-processor.invariant.0
      (subst (λ (found : Option StopBreak).
      IsFirstOf c.args.site.now c.args.lines.now c.args.places c.loop-processor.processor found)
      c.in_default.is c.in_ok-found.ensures.2.0),
  search rules,
)
