use Rattle.packet_guards.proofs.Buses.{a-tick-sends-in-order-report, a-tick-sends-in-order-alive-y}
use Rattle.packet_guards.proofs.Buses.{a-tick-sends-in-order-again, a-tick-sends-in-order-terminals}
use Rattle.packet_guards.proofs.Takeover.{tick-out}
use Rattle.packet_guards.proofs.guards.a_tick_sends_in_order.Goals as goal

pub returns : goal.returns
returns c = record {
  report = a-tick-sends-in-order-report;
  alive_y = a-tick-sends-in-order-alive-y;
  out = tick-out;
  again = a-tick-sends-in-order-again;
  terminals = a-tick-sends-in-order-terminals;
}
