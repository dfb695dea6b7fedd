-- States that the guards name.
use Rattle.std.specs.Prelude.{ℕ, pos, Bool, true, false, List, [], ◌∷◌, map, codes}
use Rattle.machine_states.specs.disc_device.specs.mirror.specs.declared.state.DriveState.{DriveState}
use Rattle.tal_tree.specs.declared.site.Kind.TheVariants as kind
use Rattle.tal_tree.specs.declared.site.Site.{Site}
use Rattle.world_semantics.specs.declared.role.Role.{Role}
use Rattle.world_semantics.specs.Messages.{Message}
use Rattle.world_semantics.specs.World.{Pair, World}
use Rattle.message_wires.specs.Play.{MachineState, machine_at_boot}
use Rattle.message_wires.specs.Wires.{Sent, Wires}

-- a state with these packets on its bus, and with these letters owed
abbrev pub with_bus : List Sent → MachineState → MachineState
with_bus bus s = record s { wires = record s.wires { bus = bus } }

abbrev pub with_owed : List Sent → MachineState → MachineState
with_owed owed s = record s { wires = record s.wires { owed = owed } }

-- a message from the node of the terminals to a processor, by the number of its sending
abbrev pub sent_to : ℕ → ℕ → Message → Sent
sent_to processor number message =
    record { number = number; letter = record { sender = 16; receiver = processor; message = message } }

-- a disc in the processors 0 and 1, one in 2 and 1, and a terminal that asks each of them to read
abbrev pub discs : Site
discs = record {
  processors = 3;
  processes =
      record { name = codes "$A"; primary = 0; backup = 1; what = kind.Disc 4 false }
      ∷ record { name = codes "$B"; primary = 2; backup = 1; what = kind.Disc 4 false } ∷ [];
  terminals =
      record { name = codes "$T0"; target = 0; requests = (pos 1 ∷ pos 0 ∷ []) ∷ [] }
      ∷ record { name = codes "$T1"; target = 1; requests = (pos 1 ∷ pos 0 ∷ []) ∷ [] }
      ∷ [];
}

abbrev pub discs_at_boot : MachineState
discs_at_boot = machine_at_boot discs

-- a disc without a mirror in the processors 0 and 1, and one with a mirror in 2 and 1
abbrev pub mirrors : Site
mirrors = record {
  processors = 3;
  processes =
      record { name = codes "$A"; primary = 0; backup = 1; what = kind.Disc 4 false }
      ∷ record { name = codes "$M"; primary = 2; backup = 1; what = kind.Disc 4 true } ∷ [];
  terminals = [];
}

abbrev pub mirrors_at_boot : MachineState
mirrors_at_boot = machine_at_boot mirrors

-- a state in which the drives of each process stand so
abbrev pub having_drives : List (List DriveState) → MachineState → MachineState
having_drives drives s = record s { drives = drives }

-- a letter that is owed by a node to a node
abbrev pub between : ℕ → ℕ → Message → Sent
between sender receiver message =
    record { number = 0; letter = record { sender = sender; receiver = receiver; message = message } }

-- a state in which nothing is owed
abbrev pub nothing_owed : MachineState → MachineState
nothing_owed s = with_owed [] s

-- a process whose copies have these roles, and have or haven't sent a checkpoint
abbrev pub standing : Role → Bool → Role → Bool → Pair → Pair
standing first sent second other_sent pair = record pair {
  first = record pair.first { role = first; sent = sent };
  second = record pair.second { role = second; sent = other_sent };
}

-- a state in which each first copy has sent a checkpoint
abbrev pub having_sent : Pair → Pair
having_sent pair = record pair { first = record pair.first { sent = true } }

abbrev pub awaiting_taking : MachineState → MachineState
awaiting_taking s = record s { world = record s.world { processes = map having_sent s.world.processes } }

-- a world in which these processors have stopped, and these nodes have marked processor 1
abbrev pub marking : List Bool → List ℕ → World → World
marking stopped nodes w = record w { stopped = stopped; downs = map (λ node. record { node = node; down = 1 }) nodes }

-- wires on which these letters are owed of nine that were sent, and nothing is on the bus
abbrev pub owing : List Sent → Wires
owing owed = record { count = 9; bus = []; owed = owed; before = 0 ∷ 0 ∷ 0 ∷ [] }

-- a state whose processors were loaded last after so many letters were sent
abbrev pub loaded_after : List ℕ → MachineState → MachineState
loaded_after before s = record s { wires = record s.wires { before = before } }

-- a letter between two nodes, by the number of its sending
abbrev pub numbered : ℕ → ℕ → ℕ → Message → Sent
numbered number sender receiver message =
    record { number = number; letter = record { sender = sender; receiver = receiver; message = message } }

-- a process whose copies are in these processors, in these roles
abbrev pub placed : ℕ → Role → ℕ → Role → Pair → Pair
placed first role second other pair = record pair {
  first = record pair.first { processor = first; role = role };
  second = record pair.second { processor = second; role = other };
}
