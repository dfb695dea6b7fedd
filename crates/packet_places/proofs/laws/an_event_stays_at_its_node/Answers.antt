use Rattle.packet_places.proofs.Played.{deliver-stays, enter-stays, fail-stays, lose-stays, repeat-stays, run-stays}
use Rattle.packet_places.proofs.Played.{drive-stays, tick-stays}
use Rattle.packet_places.proofs.laws.an_event_stays_at_its_node.Goals as goal

pub returns : goal.returns
returns c = record {
  run = run-stays;
  enter = enter-stays;
  deliver = deliver-stays;
  lose = lose-stays;
  repeat = repeat-stays;
  tick = tick-stays;
  fail = fail-stays;
  drive = drive-stays;
}
