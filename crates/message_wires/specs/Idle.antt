-- Whether nothing is left to do in a state, computed. Our own rule, as that of posts is.
use Rattle.std.specs.Prelude.{ℕ, zero, suc, ◌+◌, ◌&&◌, ◌||◌, Bool, true, false, not, List, length, slice_get, Option}
use Rattle.std.specs.Prelude.{Some, None, is_none}
use Rattle.std.specs.List.{list_all}
use Rattle.tal_tree.specs.declared.site.Site.{Site}
use Rattle.computed_changes.specs.world_semantics.specs.declared.role.Role.{Role}
use Rattle.computed_changes.specs.world_semantics.specs.declared.role.Role.TheVariants.{Acting, Watching, Blank, Gone}
use Rattle.computed_changes.specs.world_semantics.specs.World.{Copy, Pair, World, terminal_node, is_running, has_marked}
use Rattle.computed_changes.specs.world_semantics.specs.Running.{run_done}
use Rattle.computed_changes.specs.Entered.{enter_done}
use Rattle.message_wires.specs.Wires.{Sent}
use Rattle.message_wires.specs.Play.{MachineState}

-- each of so many numbers, from a number on, passes a test
abbrev pub all_from : (ℕ → Bool) → ℕ → ℕ → Bool
all_from test number zero = true
all_from test number (suc left) = test number && all_from test (number + 1) left

-- no terminal of a world can enter
abbrev pub none_enters : Site → World → Bool
none_enters site w = all_from (λ terminal. is_none (enter_done site terminal w)) 0 (length w.terminals)

-- no process can run
abbrev pub none_runs : Site → World → Bool
none_runs site w = all_from (λ number. is_none (run_done site number w)) 0 (length w.processes)

-- whether a copy of this role acts and waits for what it has sent to be taken
abbrev pub awaits_taking_as : Role → Bool → Bool
awaits_taking_as Acting sent = sent
awaits_taking_as Watching sent = false
awaits_taking_as Blank sent = false
awaits_taking_as Gone sent = false

abbrev pub awaits_taking : Copy → Bool
awaits_taking copy = awaits_taking_as copy.role copy.sent

-- none of the copies does
abbrev pub none_awaits_taking : List Pair → Bool
none_awaits_taking processes =
    list_all (λ pair. not (awaits_taking pair.first) && not (awaits_taking pair.second)) processes

-- nothing is owed between nodes that run
abbrev pub none_owed : List Bool → List Sent → Bool
none_owed stopped owed =
    list_all (λ one. not (is_running stopped one.letter.sender && is_running stopped one.letter.receiver)) owed

-- whether a node has marked a processor, if that has stopped
abbrev pub has_marked_if : World → ℕ → ℕ → Option Bool → Bool
has_marked_if w node processor (Some true) = has_marked w.downs node processor
has_marked_if w node processor (Some false) = true
has_marked_if w node processor None = true

-- whether a node, if it runs, has marked each processor that has stopped
abbrev pub has_marked_all : World → ℕ → Bool
has_marked_all w node =
    not (is_running w.stopped node)
    || all_from (λ processor. has_marked_if w node processor (slice_get w.stopped processor)) 0 (length w.stopped)

-- each node has, the processors and the node of the terminals
abbrev pub all_marked : World → Bool
all_marked w = all_from (λ node. has_marked_all w node) 0 (length w.stopped) && has_marked_all w terminal_node

-- nothing is left to do
abbrev pub is_idle : MachineState → Bool
is_idle s =
    none_enters s.site s.world
    && (none_runs s.site s.world && (none_awaits_taking s.world.processes
    && (none_owed s.world.stopped s.wires.owed && all_marked s.world)))
