use Rattle.std.proofs.Common.{◌≡◌, false, ◌<◌, ◌-◌}
use Rattle.charted_runs.proofs.Charting.{IsCharting}
use Rattle.charted_runs.proofs.running.drawn.Given as goal

abbrev pub invariant-loop-event : goal.invariant-loop-event
invariant-loop-event l =
    IsCharting (record {
      site = l.site;
      places = l.places;
      lines = l.lines;
      stop = l.fn.stop;
      layout = l.fn.layout;
      to = l.fn.to;
    }) l.schedule l.packets.machine.state l.played l.chart
    × (l.played < 4294967294) × (l.packets.machine.is_broken ≡ false)

abbrev pub decreases-loop-event : goal.decreases-loop-event
decreases-loop-event l = 4294967295 - l.played
