-- All marks of a run name one processor, and that has stopped.
use Rattle.std.proofs.Common.{◌≡◌, ◌<◌, true, List, length, Some, slice_get}
use Rattle.gd_words.specs.Members.{IsAmong}
use Rattle.tal_tree.specs.declared.site.Site.{Site}
use Rattle.schedule.specs.declared.event.Event.{Event}
use Rattle.world_semantics.specs.World.{Down}
use Rattle.world_semantics.proofs.Reached.{run-downs}
use Rattle.message_wires_laws.specs.takeover_laws.specs.Fit.{IsFit}
use Rattle.message_wires_laws.specs.awaited_requests.specs.Seats.{IsLaidOut}
use Rattle.letters_layout.specs.Fitting.{IsSmall}
use Rattle.packet_nets.specs.packet_wires.specs.Play.{Packeted}
use Rattle.packet_nets.specs.packet_wires.specs.Runs.{IsPlayed}
use Rattle.packets_laws.proofs.Going.{played-one}
use Rattle.packets_laws.proofs.Runs.{played-world}

module _ (site : Site) (events : List Event) (s : Packeted) (fit : IsFit site) (small : IsSmall site)
    (out : IsLaidOut site) (few : length events < 4294967296)
    (played : IsPlayed site events s) where
  pub marks-stopped : (mark : Down) → IsAmong mark s.world.downs → slice_get s.world.stopped mark.down ≡ Some true
  marks-stopped mark among = run-downs (played-world site fit small out events s few played) mark among

  pub marks-same : (one other : Down) → IsAmong one s.world.downs → IsAmong other s.world.downs → one.down ≡ other.down
  marks-same one other among there =
      played-one played one.down other.down (marks-stopped one among) (marks-stopped other there)
