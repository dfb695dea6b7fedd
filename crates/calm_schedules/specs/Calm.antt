-- Calm schedules: nothing in them loses a packet, and one processor stops at most. Our own rule.
use Rattle.std.specs.Prelude.{◌≡◌, ◌≤◌, ℕ, Bool, true, false, List, count_by}
use Rattle.std.specs.List.{list_all}
use Rattle.schedule.specs.declared.event.Event.{Event}
use Rattle.schedule.specs.declared.event.Event.TheVariants.{Run, Enter, Deliver, Lose, Repeat, Tick, Fail, Reload}
use Rattle.schedule.specs.declared.event.Event.TheVariants.{Drive}
use Rattle.schedule.specs.declared.line.Line.{Line}
use Rattle.schedule.specs.declared.line.Line.TheVariants.{One, Many, Drain, Mix, Mute, Until}

abbrev pub is_stop : Event → Bool
is_stop (Run process) = false
is_stop (Enter terminal) = false
is_stop (Deliver bus k) = false
is_stop (Lose bus k) = false
is_stop (Repeat bus k) = false
is_stop (Tick node) = false
is_stop (Fail processor) = true
is_stop (Reload processor) = false
is_stop (Drive event) = false

-- a line stops a processor
abbrev pub stops_one : Line → Bool
stops_one (One event) = is_stop event
stops_one (Many event times) = false
stops_one (Drain rounds) = false
stops_one (Mix start rounds) = false
stops_one (Mute node rounds) = false
stops_one (Until writes count rounds) = false

-- a line makes rounds in which all that is on the buses is delivered in its order, or stops a processor
abbrev pub is_calm_line : Line → Bool
is_calm_line (One event) = is_stop event
is_calm_line (Many event times) = false
is_calm_line (Drain rounds) = true
is_calm_line (Mix start rounds) = false
is_calm_line (Mute node rounds) = false
is_calm_line (Until writes count rounds) = true

-- how many lines may stop a processor; `stop` tells that the words stop one
abbrev pub most_stops : Bool → ℕ
most_stops true = 0
most_stops false = 1

-- a schedule is calm where all its lines are, and one processor stops at most
abbrev pub IsCalm : List Line → Bool → Type 0
IsCalm lines stop = (list_all is_calm_line lines ≡ true) × (count_by stops_one lines ≤ most_stops stop)
