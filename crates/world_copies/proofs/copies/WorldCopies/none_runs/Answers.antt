use Rattle.std.proofs.Common.{◌<◌, ◌∙◌, ap, arith, is_none, length, not, sym}
use Rattle.world_semantics.specs.Running.{run_done}
use Rattle.world_copies.proofs.Sweeps.{all-after}
use Rattle.world_copies.proofs.copies.WorldCopies.none_runs.Goals as goal

pub loop-number-preserved : goal.loop-number-preserved
loop-number-preserved c =
    let s = c.args.self.now in
    let within : c.loop-number.number < length s.world.processes =
    omega (arith, c.loop-number-test.true, c.process_count-number-end.ensures) in
    c.loop-number.invariant
    ∙ all-after (λ number. is_none (run_done s.site number s.world)) c.loop-number.number (length s.world.processes)
    within
    (ap not (sym c.if-can_run.ensures))
