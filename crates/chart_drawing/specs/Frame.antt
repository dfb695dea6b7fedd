-- What is beneath the events of a chart: the lane of each node, and the names of nodes and of copies above. Our own.
use Rattle.std.specs.Fmt.{decimal}
use Rattle.std.specs.List.{range_with_len}
use Rattle.std.specs.Prelude.{ℕ, ◌+◌, ◌*◌, nat_lt, if◌then◌else◌, List, [], ◌∷◌, ◌++◌, codes, flat_map, slice_get}
use Rattle.std.specs.Prelude.{Option, Some, None}
use Rattle.chart_drawing.specs.Layout.{copy_x, lane_x, top}
use Rattle.chart_drawing.specs.declared.layout.Layout.{Layout}
use Rattle.gd_words.specs.declared.limits.TheConstants.{TERMINAL_NODE}
use Rattle.svg_text.specs.declared.drawing.Group.{Group}
use Rattle.svg_text.specs.declared.drawing.Shape.{Shape}
use Rattle.svg_text.specs.declared.drawing.Shape.TheVariants.{Line, Words}
use Rattle.svg_text.specs.declared.looks.Look.TheVariants as look
use Rattle.tal_tree.specs.declared.site.ProcessSpec.{ProcessSpec}
use Rattle.tal_tree.specs.declared.site.Site.{Site}

-- Lanes

abbrev pub lane_words : ℕ → List ℕ
lane_words node = if nat_lt node TERMINAL_NODE then codes "processor " ++ decimal node else codes "terminals"

abbrev pub lane_shapes : Layout → ℕ → ℕ → List Shape
lane_shapes layout bottom node =
    Line look.Lane (record { x = lane_x layout node; y = top layout }) (record { x = lane_x layout node; y = bottom })
    ∷ Words look.Name (record { x = lane_x layout node; y = 14 }) (lane_words node) ∷ []

abbrev pub processor_lanes : Layout → ℕ → List Shape
processor_lanes layout bottom = flat_map (lane_shapes layout bottom) (range_with_len 0 layout.processors)

-- that of the terminals is the last one
abbrev pub all_lanes : Layout → ℕ → List Shape
all_lanes layout bottom = processor_lanes layout bottom ++ lane_shapes layout bottom TERMINAL_NODE

-- Names

abbrev pub name_shape : Layout → ℕ → ℕ → List ℕ → Shape
name_shape layout process processor name =
    Words look.Name (record { x = copy_x layout process processor; y = 28 + 12 * process }) name

abbrev pub names_by : Layout → ℕ → Option ProcessSpec → List Shape
names_by layout process None = []
names_by layout process (Some spec) =
    name_shape layout process spec.primary spec.name ∷ name_shape layout process spec.backup spec.name ∷ []

abbrev pub names_of : Layout → Site → ℕ → List Shape
names_of layout site process = names_by layout process (slice_get site.processes process)

abbrev pub all_names : Layout → Site → List Shape
all_names layout site = flat_map (names_of layout site) (range_with_len 0 layout.processes)

abbrev pub frame_group : Layout → Site → ℕ → Group
frame_group layout site bottom = record { title = []; shapes = all_lanes layout bottom ++ all_names layout site }
