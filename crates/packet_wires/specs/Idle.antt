-- Whether nothing is left to do in a state over packets, computed. Our own rule: what it says of terminals, processes
-- and marks is that of whole messages.
use Rattle.std.specs.Prelude.{ℕ, ◌&&◌, ◌||◌, Bool, true, not, List, Option, Some, None}
use Rattle.std.specs.List.{list_all}
use Rattle.link_control.specs.Ends.{End, is_empty}
use Rattle.message_layout.specs.world_semantics.specs.World.{is_running}
use Rattle.message_wires.specs.Idle.{none_enters, none_runs, none_awaits_taking, all_marked}
use Rattle.packet_wires.specs.Nodes.{Node, all_nodes, end_at}
use Rattle.packet_wires.specs.Play.{Packeted}

-- an end, where there is one, has nothing outstanding or queued
abbrev pub holds_nothing : Option End → Bool
holds_nothing None = true
holds_nothing (Some e) = is_empty e

-- the channel from x to y holds nothing, where both nodes run
abbrev pub is_quiet : List Bool → List Node → ℕ → ℕ → Bool
is_quiet stopped nodes x y = not (is_running stopped x && is_running stopped y) || holds_nothing (end_at nodes x y)

-- no channel between nodes that run holds anything
abbrev pub all_quiet : List Bool → List Node → Bool
all_quiet stopped nodes = list_all (λ x. list_all (is_quiet stopped nodes x) all_nodes) all_nodes

-- nothing is left to do: no terminal can enter, no process can run or waits at a checkpoint, channels hold nothing, and
-- what has stopped is marked
abbrev pub is_idle : Packeted → Bool
is_idle s =
    none_enters s.site s.world
    && (none_runs s.site s.world && (none_awaits_taking s.world.processes
    && (all_quiet s.world.stopped s.wires.nodes && all_marked s.world)))
