-- The present of a world: all of it but what was sent. The world has all requests and replies ever sent, and of each
-- process its checkpoints and the messages that those were taken, since its rules and laws speak of them. The last two
-- checkpoints of a process are of the present: the last one goes as what changed since the one before it.
use Rattle.std.specs.Prelude.{List, [], map, take}
use Rattle.schedule_loop.specs.world_semantics.specs.World.{Pair, World}
use Rattle.schedule_loop.specs.machine_states.specs.States.{Makes, Played, Skips, State, Would}

-- of checkpoints, the newest first, the last two
abbrev pub recent : {A : Type 0} → List A → List A
recent sent = take 2 sent

abbrev pub present_pair : Pair → Pair
present_pair pair = record pair { checkpoints = recent pair.checkpoints; takens = [] }

abbrev pub present : World → World
present w = record w { requests = []; replies = []; processes = map present_pair w.processes }

-- the present of a machine's state: its wires and drives are of it whole
abbrev pub present_state : {Wires : Type 0} → State Wires → State Wires
present_state s = record s { world = present s.world }

-- of what an event makes of a state
abbrev pub present_played : {Wires : Type 0} → Played Wires → Played Wires
present_played (Makes s) = Makes (present_state s)
present_played Skips = Skips
present_played (Would harm) = Would harm
