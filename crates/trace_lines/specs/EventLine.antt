-- The line of an event: its number, the event as a line of a schedule asks for it, what it did, and what it showed. Our
-- own.
use Rattle.std.specs.Prelude.{ℕ, List, [], ◌∷◌, ◌++◌, codes, flat_map}
use Rattle.schedule.specs.declared.bus_name.BusName.{BusName}
use Rattle.schedule.specs.declared.bus_name.BusName.TheVariants as bus
use Rattle.schedule.specs.declared.event.DriveChange.{DriveChange}
use Rattle.schedule.specs.declared.event.DriveChange.TheVariants.{Break, Revive, Copy}
use Rattle.schedule.specs.declared.event.DriveEvent.{DriveEvent}
use Rattle.schedule.specs.declared.event.Event.{Event}
use Rattle.schedule.specs.declared.event.Event.TheVariants as event
use Rattle.tal_tree.specs.declared.act.Shown.{Shown}
use Rattle.tal_tree.specs.declared.site.Site.{Site}
use Rattle.trace_lines.specs.FindingWords.{finding_text}
use Rattle.trace_lines.specs.Names.{numbered_text, process_name, terminal_name}
use Rattle.trace_lines.specs.ShownWords.{shown_text}
use Rattle.trace_lines.specs.declared.finding.Finding.{Finding}
use Rattle.trace_lines.specs.declared.places.Places.{Places}

abbrev pub named_text : List ℕ → List ℕ → List ℕ
named_text deed name = deed ++ name

abbrev pub bus_text : BusName → List ℕ
bus_text bus.X = codes "x "
bus_text bus.Y = codes "y "

abbrev pub packet_place_text : List ℕ → BusName → ℕ → List ℕ
packet_place_text deed bus k = deed ++ numbered_text (bus_text bus) k []

abbrev pub deed_text : DriveChange → List ℕ
deed_text Break = codes "break "
deed_text Revive = codes "revive "
deed_text Copy = codes "copy "

-- what befalls a drive of the disc of a name
abbrev pub drive_event_text : List ℕ → DriveEvent → List ℕ
drive_event_text name one = deed_text one.change ++ name ++ numbered_text (codes " ") one.drive []

-- an event as a line of a schedule asks for it
abbrev pub event_text : Site → Event → List ℕ
event_text site (event.Run process) = named_text (codes "run ") (process_name site process)
event_text site (event.Enter terminal) = named_text (codes "enter ") (terminal_name site terminal)
event_text site (event.Deliver bus k) = packet_place_text (codes "deliver ") bus k
event_text site (event.Lose bus k) = packet_place_text (codes "lose ") bus k
event_text site (event.Repeat bus k) = packet_place_text (codes "repeat ") bus k
event_text site (event.Tick node) = numbered_text (codes "tick ") node []
event_text site (event.Fail processor) = numbered_text (codes "fail ") processor []
event_text site (event.Reload processor) = numbered_text (codes "reload ") processor []
event_text site (event.Drive one) = drive_event_text (process_name site one.process) one

abbrev pub event_line : Site → Places → ℕ → Event → List Finding → List Shown → List ℕ
event_line site places number event findings shown =
    numbered_text [] number (codes " ") ++ event_text site event ++ flat_map (finding_text site places) findings
    ++ flat_map (shown_text site) shown ++ 10 ∷ []
