-- That the numbers of a state have successors, so that the next event can raise them. Request numbers, checkpoint
-- numbers, eras, the numbers of writes, what is counted of terminals and what was shown have 32 bits, and positions and
-- the count of letters 64. The ranges are our own.
use Rattle.std.specs.Prelude.{◌≡◌, ◌<◌, ℕ, ◌^◌, length, slice_get, Some}
use Rattle.std.specs.List.{All}
use Rattle.tal_tree.specs.gd_words.specs.Ranges.{HasNext, HasNextLong}
use Rattle.schedule.specs.declared.event.Event.{Event}
use Rattle.computed_changes.specs.checkpoint_image.specs.declared.receive.OpenerBlock.{OpenerBlock}
use Rattle.computed_changes.specs.checkpoint_image.specs.Behaving.{last_write_of}
use Rattle.computed_changes.specs.world_semantics.specs.declared.which.Which.{Which}
use Rattle.computed_changes.specs.world_semantics.specs.World.{Copy, Pair, Terminal, World, copy_of}
use Rattle.machine_states.specs.States.{Makes}
use Rattle.message_wires.specs.Play.{MachineState, play}

-- of a copy: the number of the next request on each file, the number last taken from each opener, that of a disc's last
-- write, that of the last checkpoint, the era, which rises where the copy takes over and where the other one's
-- processor is loaded again, and its position
pub record CopyHasRoom (copy : Copy) : Type 0 where
  pub next : All HasNext copy.core.next
  pub taken : All (λ (block : OpenerBlock). HasNext block.taken) copy.core.receive.openers
  pub write : HasNext (last_write_of copy.core.state)
  pub number : HasNext copy.number
  pub era : HasNext copy.era
  pub position : HasNextLong copy.position

-- of a process: each of its copies
abbrev pub PairHasRoom : Pair → Type 0
PairHasRoom pair = (k : Which) → CopyHasRoom (copy_of k pair)

-- of a terminal: how many requests it has entered, and how many replies it has printed
pub record TerminalHasRoom (terminal : Terminal) : Type 0 where
  pub entered : HasNext terminal.entered
  pub printed : HasNext terminal.printed

-- of a world: each process, each terminal, and how many writes and replies were shown together
pub record WorldHasRoom (w : World) : Type 0 where
  pub processes : (number : ℕ) (pair : Pair) → slice_get w.processes number ≡ Some pair → PairHasRoom pair
  pub terminals : All TerminalHasRoom w.terminals
  pub shown : HasNext (length w.shown)

-- of a state: its world
abbrev pub HasRoom : MachineState → Type 0
HasRoom s = WorldHasRoom s.world

-- whatever event comes next, the count of the letters that were sent has 64 bits after it
abbrev pub HasRoomForLetters : MachineState → Type 0
HasRoomForLetters s = (event : Event) (next : MachineState) → play s event ≡ Makes next → next.wires.count < 2 ^ 64
