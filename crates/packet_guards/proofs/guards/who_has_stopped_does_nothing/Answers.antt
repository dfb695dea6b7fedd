use Rattle.packet_guards.proofs.Marks.{who-has-stopped-does-nothing-ticks, who-has-stopped-does-nothing-drops}
use Rattle.packet_guards.proofs.Marks.{who-has-stopped-does-nothing-runs}
use Rattle.packet_guards.proofs.guards.who_has_stopped_does_nothing.Goals as goal

pub returns : goal.returns
returns c = record {
  ticks = who-has-stopped-does-nothing-ticks;
  drops = who-has-stopped-does-nothing-drops;
  runs = who-has-stopped-does-nothing-runs;
}
