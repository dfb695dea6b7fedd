-- Where things are in a chart: from the left to the right a lane for each processor and one for the terminals, with the
-- copies of a processor beside its lane; and from above to below the events, one a row. Our own.
use Rattle.std.specs.Prelude.{ℕ, ◌+◌, ◌-◌, ◌*◌, ◌≤◌, nat_lt, if◌then◌else◌}
use Rattle.chart_drawing.specs.declared.layout.Layout.{Layout}
use Rattle.gd_words.specs.declared.limits.TheConstants.{TERMINAL_NODE}
use Rattle.svg_text.specs.declared.drawing.Spot.{Spot}

-- Lanes

-- the lane of a node: the terminals' node has the last one
abbrev pub lane_of : Layout → ℕ → ℕ
lane_of layout node = if nat_lt node TERMINAL_NODE then node else layout.processors

abbrev pub pitch : Layout → ℕ
pitch layout = 100 + 16 * layout.processes

abbrev pub lane_x : Layout → ℕ → ℕ
lane_x layout node = 130 + pitch layout * lane_of layout node

abbrev pub copy_x : Layout → ℕ → ℕ → ℕ
copy_x layout process processor = lane_x layout processor + 14 + 16 * process

abbrev pub width : Layout → ℕ
width layout = lane_x layout TERMINAL_NODE + 160

-- Events

-- the names of the processes are above
abbrev pub top : Layout → ℕ
top layout = 40 + 12 * layout.processes

-- the row of an event: 0 stands for all before the first one that is drawn, and 400 for all after the last one
abbrev pub row_of : Layout → ℕ → ℕ
row_of layout number =
    if nat_lt number layout.from then 0
    else if nat_lt (number - layout.from) 399 then number - layout.from + 1 else 400

abbrev pub event_y : Layout → ℕ → ℕ
event_y layout number = top layout + 14 * row_of layout number

-- where the lanes end of a chart of so many events
abbrev pub bottom : Layout → ℕ → ℕ
bottom layout events = top layout + 14 * (if nat_lt events 400 then events else 400) + 14

abbrev pub lane_spot : Layout → ℕ → ℕ → Spot
lane_spot layout node number = record { x = lane_x layout node; y = event_y layout number }

abbrev pub copy_spot : Layout → ℕ → ℕ → ℕ → Spot
copy_spot layout process processor number =
    record { x = copy_x layout process processor; y = event_y layout number }

-- how far from the left and from above a chart may reach
abbrev pub IsOnChart : Spot → Type 0
IsOnChart spot = (spot.x ≤ 2000000) × (spot.y ≤ 20000)
