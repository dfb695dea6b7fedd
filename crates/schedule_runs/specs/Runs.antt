-- A schedule on the machine over whole messages: where it begins, and what is counted before an event.
use Rattle.std.specs.Prelude.{false, List, length, Option}
use Rattle.tal_tree.specs.declared.site.Site.{Site}
use Rattle.schedule.specs.declared.event.Counts.{Counts}
use Rattle.schedule.specs.declared.line.Line.{Line}
use Rattle.player.specs.declared.stop.ProcessorStop.{ProcessorStop}
pub use Rattle.agendas.specs.Agendas.{Agenda, Plan, agenda_of, coming, stopped_by}
pub use Rattle.agendas.specs.Sizes.{sizes_of}
use Rattle.pair_machine.specs.message_wires.specs.Idle.{is_idle}
use Rattle.pair_machine.specs.message_wires.specs.Play.{MachineState, machine_at_boot}
use Rattle.pair_machine.specs.message_wires.specs.Wires.{Wires}
use Rattle.pair_machine.specs.node_copies.specs.ShownCounts.{replies_in, writes_in}
use Rattle.schedule_loop.specs.Ends.{Course}

-- a schedule with a stop, from the beginning of a site
abbrev pub course_on : Site → List Line → Option ProcessorStop → Course Wires
course_on site lines stop =
    record { sizes = sizes_of site; start = machine_at_boot site; lines = lines; stop = stop }

-- the counts of a state: all packets are on bus X, and none is an alive one
abbrev pub counts_of : MachineState → Counts
counts_of s = record {
  x = length s.wires.bus;
  y = 0;
  alive = false;
  sender = 0;
  idle = is_idle s;
  writes = writes_in s.world.shown;
  replies = replies_in s.world.shown;
}
