use Rattle.packet_wires.proofs.Reloaded.{loaded-marks, loaded-stopped, old-dropped, renewed-stops, renewed-whole}
use Rattle.packet_wires.proofs.Reloaded.{renewing-second, renewing-sends}
use Rattle.packet_wires.proofs.examples.what_was_sent_before_a_reload_is_dropped.Goals as goal

pub returns : goal.returns
returns c = record {
  stopped = loaded-stopped;
  marks = loaded-marks;
  dropped = old-dropped;
  sends = renewing-sends;
  second = renewing-second;
  whole = renewed-whole;
  stops = renewed-stops;
}
