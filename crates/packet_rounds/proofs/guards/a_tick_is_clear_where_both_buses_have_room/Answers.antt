use Rattle.packet_rounds.proofs.Examples.{tick-clear, tick-full-x, tick-full-y}
use Rattle.packet_rounds.proofs.guards.a_tick_is_clear_where_both_buses_have_room.Goals as goal

pub returns : goal.returns
returns c = record { room = tick-clear; full_x = tick-full-x; full_y = tick-full-y }
