-- What the tick of a node finds out about the processors: which ones a check missed, what is reported, and whose hold
-- line is pulled. Checks, reports and the hold line are those of the machine over packets.
use Rattle.std.specs.Prelude.{ℕ, ◌&&◌, not, if◌then◌else◌, List, [], ◌++◌, flat_map, option_to_list, slice_get, Option}
use Rattle.std.specs.Prelude.{Some, None}
use Rattle.std.specs.Option.{option_and_then, option_map}
use Rattle.alive_regroup.specs.Watching.{Watching, after_tick, is_missed, is_silent, places, told_by_tick}
use Rattle.alive_regroup.specs.declared.neighbour.Neighbour.{Neighbour}
use Rattle.alive_regroup.specs.declared.set.ProcessorSet.{ProcessorSet}
use Rattle.schedule.specs.declared.event.Event.{Event}
use Rattle.schedule.specs.declared.event.Event.TheVariants.{Run, Enter, Deliver, Lose, Repeat, Tick, Fail, Reload}
use Rattle.schedule.specs.declared.event.Event.TheVariants.{Drive}
use Rattle.machine_views.specs.site_machine.specs.packet_wires.specs.Lines.{line_pulled}
use Rattle.machine_views.specs.site_machine.specs.packet_wires.specs.Play.{Packeted}
use Rattle.machine_views.specs.site_machine.specs.packet_wires.specs.Wires.{nothing_sent, midst_after_tick}
use Rattle.trace_lines.specs.declared.finding.Finding.{Finding}
use Rattle.trace_lines.specs.declared.finding.Finding.TheVariants as finding
use Rattle.event_findings.specs.declared.noting.Ticking.{Ticking}

-- Before the tick

-- the processor whose line the node pulls at its tick
abbrev pub line_at : Packeted → ℕ → Option ℕ
line_at s node =
    option_and_then (line_pulled node)
    (slice_get (midst_after_tick s.site.processors node (nothing_sent s.wires.nodes)).nodes node)

abbrev pub ticking_with : Packeted → ℕ → Watching → Ticking
ticking_with s node watch = record { node = node; watch = watch; line = line_at s node }

abbrev pub ticking_at : Packeted → ℕ → Option Ticking
ticking_at s node = option_map (ticking_with s node) (option_map (λ one. one.watch) (slice_get s.wires.nodes node))

-- what is noted of the node that ticks
abbrev pub ticking_of : Packeted → Event → Option Ticking
ticking_of s (Tick node) = ticking_at s node
ticking_of s (Run process) = None
ticking_of s (Enter terminal) = None
ticking_of s (Deliver bus k) = None
ticking_of s (Lose bus k) = None
ticking_of s (Repeat bus k) = None
ticking_of s (Fail processor) = None
ticking_of s (Reload processor) = None
ticking_of s (Drive one) = None

-- What the tick finds out

-- what a check made of a processor: it missed it and the one before hadn't, or it is the second one in a row that did
abbrev pub miss_found : ℕ → ℕ → Neighbour → Neighbour → Option Finding
miss_found node processor before after =
    if is_silent after && not (is_silent before) then Some (finding.FindsSilent node processor)
    else if is_missed after && not (is_missed before) then Some (finding.Misses node processor) else None

abbrev pub miss_between : ℕ → ℕ → Option Neighbour → Option Neighbour → Option Finding
miss_between node processor (Some before) (Some after) = miss_found node processor before after
miss_between node processor (Some before) None = None
miss_between node processor None after = None

abbrev pub miss_at : ℕ → Watching → Watching → ℕ → List Finding
miss_at node before after processor =
    option_to_list
    (miss_between node processor (slice_get before.neighbours processor) (slice_get after.neighbours processor))

abbrev pub line_found : Ticking → Option Finding
line_found ticking = option_map (λ processor. finding.PullsLine ticking.node processor) ticking.line

abbrev pub report_found : ℕ → Option ProcessorSet → Option Finding
report_found node told = option_map (λ silent. finding.Reports node silent) told

abbrev pub tick_found : Ticking → List Finding
tick_found ticking =
    flat_map (miss_at ticking.node ticking.watch (after_tick ticking.watch)) places
    ++ option_to_list (report_found ticking.node (told_by_tick ticking.watch)) ++ option_to_list (line_found ticking)

-- what a tick finds out, if one is made
abbrev pub ticks_found : Option Ticking → List Finding
ticks_found None = []
ticks_found (Some ticking) = tick_found ticking
