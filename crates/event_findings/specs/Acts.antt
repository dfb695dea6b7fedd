-- The acts that an event keeps, and those that the copy which ran holds back since: by the acts that were kept before
-- it, and by what that copy held.
use Rattle.std.specs.Prelude.{ℕ, List, [], length, map, drop, reverse, if◌then◌else◌, slice_get, Option, Some}
use Rattle.std.specs.Prelude.{None}
use Rattle.std.specs.Option.{option_and_then, option_map}
use Rattle.machine_views.specs.Views.{acting_in}
use Rattle.plain_semantics.specs.Openers.{openers_of}
use Rattle.schedule.specs.declared.event.Event.{Event}
use Rattle.schedule.specs.declared.event.Event.TheVariants.{Run, Enter, Deliver, Lose, Repeat, Tick, Fail, Reload}
use Rattle.schedule.specs.declared.event.Event.TheVariants.{Drive}
use Rattle.machine_views.specs.site_machine.specs.packet_wires.specs.Play.{Packeted}
use Rattle.tal_tree.specs.declared.act.Act.{Act}
use Rattle.tal_tree.specs.declared.act.Act.TheVariants.{Step, Take, Enter as Entry, Print}
use Rattle.tal_tree.specs.declared.site.Site.{Site}
use Rattle.tal_tree.specs.declared.site.Who.{Who}
use Rattle.trace_lines.specs.declared.finding.ActName.{ActName}
use Rattle.trace_lines.specs.declared.finding.ActName.TheVariants as act
use Rattle.trace_lines.specs.declared.finding.Finding.{Finding}
use Rattle.trace_lines.specs.declared.finding.Finding.TheVariants as finding
use Rattle.world_semantics.specs.Kept.{acts_of}
use Rattle.world_semantics.specs.Shares.{Share, share_of}
use Rattle.world_semantics.specs.World.{World}
use Rattle.event_findings.specs.declared.noting.Holding.{Holding}

-- Before the event

-- the share of the kept acts that the copy has which acts for a process
abbrev pub share_at : World → ℕ → Option Share
share_at w process = option_map share_of (option_and_then acting_in (slice_get w.processes process))

abbrev pub holding_with : ℕ → Share → Holding
holding_with process share = record { process = process; held = length share.held }

abbrev pub holding_at : World → ℕ → Option Holding
holding_at w process = option_map (holding_with process) (share_at w process)

-- how many acts the copy holds that runs
abbrev pub holding_of : World → Event → Option Holding
holding_of w (Run process) = holding_at w process
holding_of w (Enter terminal) = None
holding_of w (Deliver bus k) = None
holding_of w (Lose bus k) = None
holding_of w (Repeat bus k) = None
holding_of w (Tick node) = None
holding_of w (Fail processor) = None
holding_of w (Reload processor) = None
holding_of w (Drive one) = None

-- After the event

abbrev pub asker_at : Site → ℕ → ℕ → Option Who
asker_at site process opener = option_map (λ one. one.who) (slice_get (openers_of site process) opener)

abbrev pub act_named : Site → Act → ActName
act_named site (Step process) = act.Step process
act_named site (Take process opener) = act.Take process (asker_at site process opener)
act_named site (Entry terminal) = act.Enter terminal
act_named site (Print terminal) = act.Print terminal

abbrev pub keeps : Site → Act → Finding
keeps site one = finding.Keeps (act_named site one)

abbrev pub holds_back : Site → Act → Finding
holds_back site one = finding.HoldsBack (act_named site one)

-- the acts that are kept since there were so many
abbrev pub kept_since : Packeted → ℕ → List Finding
kept_since next count = map (keeps next.site) (drop count (acts_of next.world))

abbrev pub held_beyond : Site → ℕ → Option Share → List Finding
held_beyond site count None = []
held_beyond site count (Some share) = map (holds_back site) (drop count (reverse share.held))

-- the acts that a copy holds since it held so many
abbrev pub held_since : Packeted → Option Holding → List Finding
held_since next None = []
held_since next (Some holding) = held_beyond next.site holding.held (share_at next.world holding.process)
