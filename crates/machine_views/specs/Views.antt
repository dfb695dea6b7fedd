-- What is told of a world of copies. The world is our own; that a copy's image is told with everything in it, so that
-- copies of one process can be compared, is our own rule too.
use Rattle.std.specs.Prelude.{ℕ, zero, suc, ◌+◌, ◌-◌, ◌==◌, ℤ, Bool, false, if◌then◌else◌, nat_lt, List, [], ◌∷◌, ◌++◌}
use Rattle.std.specs.Prelude.{map, Option, Some, None}
use Rattle.checkpoint_image.specs.declared.message.FileNumber.{FileNumber}
use Rattle.disc_device.specs.Sectors.{Stored}
use Rattle.process_images.specs.Images.{everything_of}
use Rattle.process_semantics.specs.declared.point.Point.{Point}
use Rattle.process_semantics.specs.declared.point.Point.TheVariants.{Await}
use Rattle.process_semantics.specs.Image.{image_of}
use Rattle.process_semantics.specs.Process.{ProcessState, asked_file, point}
use Rattle.site_machine.specs.processes.specs.Seen.{next_number_of}
use Rattle.world_semantics.specs.Core.{Core, next_on}
use Rattle.world_semantics.specs.World as world
use Rattle.world_semantics.specs.World.{Copy, Pair, World, has_marked, is_acting, terminal_node}
use Rattle.machine_views.specs.declared.views.Awaited.{Awaited}
use Rattle.machine_views.specs.declared.views.CopyView.{CopyView}
use Rattle.machine_views.specs.declared.views.DownView.{DownView}
use Rattle.machine_views.specs.declared.views.SectorView.{SectorView}
use Rattle.machine_views.specs.declared.views.TerminalView.{TerminalView}
use Rattle.machine_views.specs.declared.views.View.{View}
use Rattle.site_machine.specs.Stopped.{stopped_from}

-- In order

-- what each of so many numbers gives, from one on
abbrev pub each_number : {A : Type 0} → (ℕ → List A) → ℕ → ℕ → List A
each_number give number zero = []
each_number give number (suc more) = give number ++ each_number give (number + 1) more

-- what each one of a list gives with its place, where the first has this place
abbrev pub each_at : {A B : Type 0} → (ℕ → A → List B) → ℕ → List A → List B
each_at give place [] = []
each_at give place (one ∷ rest) = give place one ++ each_at give (place + 1) rest

-- Processes

-- the copy of a process that acts, if one does
abbrev pub acting_in : Pair → Option Copy
acting_in pair =
    if is_acting pair.first.role then Some pair.first
    else if is_acting pair.second.role then Some pair.second else None

-- Nodes

-- the mark of a processor by a node, if it stands
abbrev pub down_of : List world.Down → ℕ → ℕ → List DownView
down_of downs node processor =
    if has_marked downs node processor then record { node = node; down = processor } ∷ [] else []

-- the marks by a node: a processor's number is below that of the node of the terminals
abbrev pub downs_by : List world.Down → ℕ → List DownView
downs_by downs node = each_number (down_of downs node) 0 terminal_node

-- the marks by all nodes, the processors and the node of the terminals
abbrev pub downs_in : List world.Down → List DownView
downs_in downs = each_number (downs_by downs) 0 (terminal_node + 1)

-- Copies

abbrev pub awaited_view_at : Core → Point → Option Awaited
awaited_view_at core Await =
    Some (record { file = asked_file core.state; number = next_on core (asked_file core.state) - 1 })
awaited_view_at core _ = None

-- the request whose reply is awaited: the last one that was asked on its file
abbrev pub awaited_view : Core → Option Awaited
awaited_view core = awaited_view_at core (point core.state)

-- a process's image with everything that it may list
abbrev pub image_of_everything : ProcessState → List ℤ
image_of_everything state = image_of (everything_of state) state

-- the number of the next request on a file
abbrev pub file_number : ℕ → ℕ → List FileNumber
file_number file next = record { file = file; next = next } ∷ []

-- a copy of the process of a number
abbrev pub copy_view : ℕ → Copy → CopyView
copy_view process copy = record {
  process = process;
  processor = copy.processor;
  role = copy.role;
  era = copy.era;
  number = copy.number;
  sent = copy.sent;
  renewal = copy.renewal;
  awaited = awaited_view copy.core;
  point = point copy.core.state;
  next = next_number_of copy.core.state;
  state = image_of_everything copy.core.state;
  files = each_at file_number 0 copy.core.next;
  receive = copy.core.receive;
  waiting = copy.waiting;
}

-- both copies of the process of a number, that in the lower processor first
abbrev pub copy_views : ℕ → Pair → List CopyView
copy_views process pair =
    if nat_lt pair.second.processor pair.first.processor
    then copy_view process pair.second ∷ copy_view process pair.first ∷ []
    else copy_view process pair.first ∷ copy_view process pair.second ∷ []

-- whether a copy acts for this process
abbrev pub acts_for : ℕ → CopyView → Bool
acts_for process copy = if copy.process == process then is_acting copy.role else false

-- the copy that acts for a process, if one does
abbrev pub acting_of : ℕ → List CopyView → Option CopyView
acting_of process [] = None
acting_of process (copy ∷ copies) = if acts_for process copy then Some copy else acting_of process copies

-- Terminals and sectors

abbrev pub terminal_view : world.Terminal → TerminalView
terminal_view terminal = record { entered = terminal.entered; printed = terminal.printed }

-- a sector of the process of a number
abbrev pub sector_view : ℕ → ℕ → Stored → List SectorView
sector_view process sector stored =
    record { process = process; sector = sector; words = stored.words; number = stored.number } ∷ []

-- the sectors of the process of a number
abbrev pub sector_views : ℕ → Pair → List SectorView
sector_views process pair = each_at (sector_view process) 0 pair.sectors

-- Worlds

-- what is told of a world
abbrev pub view_of : World → View
view_of w = record {
  stopped = stopped_from 0 w.stopped;
  reloads = w.reloads;
  down = downs_in w.downs;
  copies = each_at copy_views 0 w.processes;
  terminals = map terminal_view w.terminals;
  sectors = each_at sector_views 0 w.processes;
}
