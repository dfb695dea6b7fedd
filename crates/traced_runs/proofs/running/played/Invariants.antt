use Rattle.std.proofs.Common.{◌≡◌, false, ◌<◌, ◌-◌}
use Rattle.traced_runs.proofs.Tracing.{IsTracing}
use Rattle.traced_runs.proofs.running.played.Given as goal

abbrev pub invariant-loop-event : goal.invariant-loop-event
invariant-loop-event g l =
    IsTracing g.K.Sink.held g.K.Sink.faults g.K.Sink.sure l.fn.sink l.sink (record {
      site = l.site;
      places = l.places;
      lines = l.lines;
      stop = l.fn.stop;
      manner = l.manner;
    }) l.schedule l.packets.machine.state l.played
    × (l.played < 4294967294) × (l.packets.machine.is_broken ≡ false)

abbrev pub decreases-loop-event : goal.decreases-loop-event
decreases-loop-event g l = 4294967295 - l.played
