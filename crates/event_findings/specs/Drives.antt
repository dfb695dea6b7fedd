-- How the drive stands that an event names, after it.
use Rattle.std.specs.Prelude.{[], slice_get, Option, Some, None}
use Rattle.std.specs.Option.{unwrap_or}
use Rattle.machine_states.specs.disc_device.specs.mirror.specs.States.{drive_state_at}
use Rattle.schedule.specs.declared.event.Event.{Event}
use Rattle.schedule.specs.declared.event.Event.TheVariants.{Run, Enter, Deliver, Lose, Repeat, Tick, Fail, Reload}
use Rattle.schedule.specs.declared.event.Event.TheVariants.{Drive}
use Rattle.machine_views.specs.site_machine.specs.packet_wires.specs.Play.{Packeted}
use Rattle.trace_lines.specs.declared.finding.Finding.{Finding}
use Rattle.trace_lines.specs.declared.finding.Finding.TheVariants as finding

abbrev pub drive_found : Event → Packeted → Option Finding
drive_found (Drive one) next =
    Some (finding.Drive (drive_state_at (unwrap_or (slice_get next.drives one.process) []) one.drive))
drive_found (Run process) next = None
drive_found (Enter terminal) next = None
drive_found (Deliver bus k) next = None
drive_found (Lose bus k) next = None
drive_found (Repeat bus k) next = None
drive_found (Tick node) next = None
drive_found (Fail processor) next = None
drive_found (Reload processor) next = None
