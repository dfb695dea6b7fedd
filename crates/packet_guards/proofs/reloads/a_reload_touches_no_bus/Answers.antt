use Rattle.packet_guards.proofs.Loading.{a-reload-touches-no-bus-x, a-reload-touches-no-bus-y}
use Rattle.packet_guards.proofs.Loading.{a-reload-touches-no-bus-out}
use Rattle.packet_guards.proofs.reloads.a_reload_touches_no_bus.Goals as goal

pub returns : goal.returns
returns c = record {
  x = a-reload-touches-no-bus-x;
  y = a-reload-touches-no-bus-y;
  out = a-reload-touches-no-bus-out;
}
