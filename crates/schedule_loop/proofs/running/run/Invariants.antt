use Rattle.std.proofs.Common.{◌≡◌, false, ◌<◌, ◌-◌}
use Rattle.schedule_loop.specs.Playing.{IsPlaying}
use Rattle.schedule_loop.proofs.running.run.Given as goal

abbrev pub invariant-loop-event : goal.invariant-loop-event
invariant-loop-event g l =
    IsPlaying g.M.ScheduleMachine.rules (record {
      sizes = l.fn.sizes;
      start = g.M.ScheduleMachine.state l.fn.machine;
      lines = l.lines;
      stop = l.fn.stop;
    }) l.schedule (g.M.ScheduleMachine.state l.machine) l.played
    × (l.played < 4294967294) × (g.M.ScheduleMachine.is_broken l.machine ≡ false)

abbrev pub decreases-loop-event : goal.decreases-loop-event
decreases-loop-event g l = 4294967295 - l.played
