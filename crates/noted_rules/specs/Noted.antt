-- The machine over packets of whose events notes are taken, as a schedule is played on it. Our own form.
use Rattle.std.specs.Prelude.{ℕ, Bool, List, Option}
use Rattle.machine_states.specs.States.{Makes, Played, Skips, State, Would}
use Rattle.packet_runs.specs.Runs.{counts_of, sizes_of}
use Rattle.packet_runs.specs.site_machine.specs.Needs.{IsReady}
use Rattle.packet_runs.specs.site_machine.specs.Seen.{closed_state}
use Rattle.packet_runs.specs.site_machine.specs.packet_wires.specs.Idle.{is_idle}
use Rattle.packet_runs.specs.site_machine.specs.packet_wires.specs.Play.{Packeted, packeted_at_boot, play}
use Rattle.packet_runs.specs.site_machine.specs.packet_wires.specs.Wires.{Wires}
use Rattle.player.specs.declared.stop.ProcessorStop.{ProcessorStop}
use Rattle.schedule.specs.declared.event.Event.{Event}
use Rattle.schedule.specs.declared.line.Line.{Line}
use Rattle.schedule_loop.specs.Ends.{Course, IsRunOn}
use Rattle.schedule_loop.specs.Rules.{Rules}
use Rattle.schedule_loop.specs.declared.ran.Ending.{Ending}
use Rattle.tal_tree.specs.declared.site.Site.{Site}

-- how notes go on over an event that leads from one state to another
abbrev pub Noting : Type 0 → Type 0
Noting Notes = Event → Packeted → Packeted → Notes → Notes

-- what is on the wires, and the notes beside it
pub record NotedWires (Notes : Type 0) : Type 0 where
  pub wires : Wires
  pub notes : Notes

abbrev pub Noted : Type 0 → Type 0
Noted Notes = State (NotedWires Notes)

-- a state without its notes
abbrev pub plain : {Notes : Type 0} → Noted Notes → Packeted
plain s = record { site = s.site; world = s.world; wires = s.wires.wires; drives = s.drives }

abbrev pub with_notes : {Notes : Type 0} → Notes → Packeted → Noted Notes
with_notes notes s =
    record { site = s.site; world = s.world; wires = record { wires = s.wires; notes = notes }; drives = s.drives }

abbrev pub noted_by : {Notes : Type 0} → Noting Notes → Noted Notes → Event → Played Wires
    → Played (NotedWires Notes)
noted_by noting s event (Makes next) = Makes (with_notes (noting event (plain s) next s.wires.notes) next)
noted_by noting s event Skips = Skips
noted_by noting s event (Would harm) = Would harm

-- an event makes what it makes without the notes
abbrev pub noted_play : {Notes : Type 0} → Noting Notes → Noted Notes → Event → Played (NotedWires Notes)
noted_play noting s event = noted_by noting s event (play (plain s) event)

abbrev pub noted_closed : {Notes : Type 0} → Noted Notes → Noted Notes
noted_closed s = with_notes s.wires.notes (closed_state (plain s))

abbrev pub noted_rules : {Notes : Type 0} → Noting Notes → Rules (NotedWires Notes)
noted_rules noting = record {
  play = noted_play noting;
  counts = λ s player. counts_of (plain s) player;
  is_idle = λ s. is_idle (plain s);
  closed = noted_closed;
}

abbrev pub IsReadyToo : {Notes : Type 0} → Noted Notes → Type 0
IsReadyToo s = IsReady (plain s)

-- a schedule with a stop, from the beginning of a site, with these notes
abbrev pub noted_course : {Notes : Type 0} → Notes → Site → List Line → Option ProcessorStop
    → Course (NotedWires Notes)
noted_course notes site lines stop =
    record { sizes = sizes_of site; start = with_notes notes (packeted_at_boot site); lines = lines; stop = stop }

-- what is left is left of a run of the schedule with the stop on the site, which began with some notes and ended with
-- others
abbrev pub IsNotedRun : {Notes : Type 0} → Noting Notes → Notes → Site → List Line → Option ProcessorStop → Bool
    → Packeted → Notes → ℕ → Ending → Type 0
IsNotedRun noting notes site lines stop is_broken left noted asked ending =
    IsRunOn (noted_rules noting) (noted_course notes site lines stop) is_broken (with_notes noted left) asked ending
