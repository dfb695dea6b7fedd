-- The event line that is said, with the places of what it names. Node 16 is that of the terminals.
use Rattle.std.specs.Prelude.{ℕ, ◌==◌, ◌||◌, nat_lt, Bool, false, List, slice_get, Option, Some, None, option_and_then}
use Rattle.std.specs.Prelude.{option_map, if◌then◌else◌}
use Rattle.name_table.specs.Entries.{Named, place_of}
use Rattle.schedule.specs.declared.event.DriveChange.{DriveChange}
use Rattle.schedule.specs.declared.event.DriveChange.TheVariants.{Copy}
use Rattle.schedule.specs.declared.event.Event.TheVariants as event
use Rattle.schedule.specs.declared.line.Line.{Line}
use Rattle.schedule.specs.declared.line.Line.TheVariants as line
use Rattle.deck_lines.specs.declared.event_saying.EventSaying.{EventSaying}
use Rattle.deck_lines.specs.declared.event_saying.EventSaying.TheVariants as said
use Rattle.deck_reader.specs.declared.outline.Body.{Body}
use Rattle.deck_reader.specs.declared.outline.Body.TheVariants as body
use Rattle.deck_reader.specs.declared.outline.Outline.{Outline}
use Rattle.deck_reader.specs.declared.outline.ProcessLines.{ProcessLines}
use Rattle.gd_words.specs.declared.limits.TheConstants.{TERMINAL_NODE}

-- a step of a process that is there
abbrev pub run_line : Outline → List ℕ → Option Line
run_line outline name = option_map (λ place. line.One (event.Run place)) (place_of outline.processes name)

-- at least one step of a process that is there
abbrev pub run_times_line : Outline → List ℕ → ℕ → Option Line
run_times_line outline name times = if nat_lt times 1 then None else option_map
    (λ place. line.Many (event.Run place) times) (place_of outline.processes name)

-- the next request of a terminal that is there
abbrev pub enter_line : Outline → List ℕ → Option Line
enter_line outline name = option_map (λ place. line.One (event.Enter place)) (place_of outline.terminals name)

-- the tick of a processor of the site, or of node 16
abbrev pub tick_line : ℕ → ℕ → Option Line
tick_line processors node =
    if nat_lt node processors || node == TERMINAL_NODE then Some (line.One (event.Tick node)) else None

-- the stop of a processor of the site
abbrev pub fail_line : ℕ → ℕ → Option Line
fail_line processors processor = if nat_lt processor processors then Some (line.One (event.Fail processor)) else None

-- the reload of a processor of the site
abbrev pub reload_line : ℕ → ℕ → Option Line
reload_line processors processor =
    if nat_lt processor processors then Some (line.One (event.Reload processor)) else None

abbrev pub is_mirror : Body → Bool
is_mirror (body.Disc sectors mirrored) = mirrored
is_mirror (body.Pair lines) = false

-- whether this is a mirrored disc, if it is there
abbrev pub is_mirror_there : Option ProcessLines → Bool
is_mirror_there None = false
is_mirror_there (Some lines) = is_mirror lines.body

-- the lines of the process at a place
abbrev pub lines_at : List (Named ProcessLines) → ℕ → Option ProcessLines
lines_at processes place = option_map (λ entry. entry.1) (slice_get processes place)

-- where the mirrored disc of this name stands
abbrev pub mirror_of : List (Named ProcessLines) → List ℕ → Option ℕ
mirror_of processes name = option_and_then
    (λ place. if is_mirror_there (lines_at processes place) then Some place else None) (place_of processes name)

-- a change of a drive of a mirrored disc that is there
abbrev pub drive_line : Outline → List ℕ → ℕ → DriveChange → Option Line
drive_line outline name drive change = option_map
    (λ place. line.One (event.Drive (record { process = place; drive = drive; change = change })))
    (mirror_of outline.processes name)

-- at least one sector copied on a drive of a mirrored disc that is there
abbrev pub copy_times_line : Outline → List ℕ → ℕ → ℕ → Option Line
copy_times_line outline name drive times = if nat_lt times 1 then None else option_map
    (λ place. line.Many (event.Drive (record { process = place; drive = drive; change = Copy })) times)
    (mirror_of outline.processes name)

-- rounds in which the alive packets of a processor of the site are lost
abbrev pub mute_line : ℕ → ℕ → ℕ → Option Line
mute_line processors processor rounds = if nat_lt processor processors then Some (line.Mute processor rounds) else None

-- the line of what is said
abbrev pub event_line : Outline → EventSaying → Option Line
event_line outline (said.Run name) = run_line outline name
event_line outline (said.RunTimes name times) = run_times_line outline name times
event_line outline (said.Enter name) = enter_line outline name
event_line outline (said.Deliver place) = Some (line.One (event.Deliver place.bus place.k))
event_line outline (said.Lose place) = Some (line.One (event.Lose place.bus place.k))
event_line outline (said.Repeat place) = Some (line.One (event.Repeat place.bus place.k))
event_line outline (said.Tick node) = tick_line outline.processors node
event_line outline (said.Fail processor) = fail_line outline.processors processor
event_line outline (said.Reload processor) = reload_line outline.processors processor
event_line outline (said.Drive name drive change) = drive_line outline name drive change
event_line outline (said.CopyTimes name drive times) = copy_times_line outline name drive times
event_line outline (said.Drain rounds) = Some (line.Drain rounds)
event_line outline (said.Mix start rounds) = Some (line.Mix start rounds)
event_line outline (said.Mute processor rounds) = mute_line outline.processors processor rounds
event_line outline (said.Until writes count rounds) = Some (line.Until writes count rounds)
