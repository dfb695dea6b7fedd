-- The machine over whole messages, as a schedule is played on it.
use Rattle.pair_machine.specs.message_wires.specs.Idle.{is_idle}
use Rattle.pair_machine.specs.message_wires.specs.Play.{MachineState, play}
use Rattle.pair_machine.specs.message_wires.specs.Wires.{Wires}
use Rattle.pair_machine.specs.message_wires.specs.HasRoom.{HasRoom, HasRoomForLetters}
use Rattle.pair_machine.specs.Room.{OpenersAreThere}
use Rattle.pair_machine.specs.Seen.{closed_state}
use Rattle.schedule_loop.specs.Rules.{Rules}
use Rattle.schedule_runs.specs.Runs.{counts_of}

-- what is counted is the same wherever a line stands
abbrev pub pair_rules : Rules Wires
pair_rules = record {
  play = play;
  counts = λ s player. counts_of s;
  is_idle = is_idle;
  closed = closed_state;
}

-- what an event needs: each number that it may raise has a successor, and each request on the bus names an opener that
-- is there
pub record CanGoOn (s : MachineState) : Type 0 where
  pub room : HasRoom s
  pub letters : HasRoomForLetters s
  pub openers : OpenersAreThere s
